-- The productions of the document as a whole, [1] [22] [39] [40] [42] [43] [44], line by line as the Recommendation prints them, on texts
-- alone: `Element k s t` says that at the front of s stands an element of level k, and t is what follows it. No forest, and no care that a
-- text be read in one way only: CharData may be empty, and S may stand beside S. The constraints Element Type Match and Unique Att Spec
-- and the sizes are those of Document.antt, which derives the same texts: proofs/Plainly.antt. A document has no document type.
use Rattle.std.specs.Prelude.{List, [], ◌++◌, ℕ, suc}
use Rattle.xml.specs.Notation.{Rule, ◌⨾◌, ◌∣◌, ◌∗, Reads, text, opt}
use Rattle.xml.specs.Productions.{S, Name as NameRule, Reference, CharData, Comment, PI, CDSect, Misc}
use Rattle.xml.specs.Encoding.{Utf8Decl}
use Rattle.xml.specs.Forest.{Name}
use Rattle.xml.specs.Document.{Attributes, Unique}

-- [40] STag ::= '<' Name (S Attribute)* S? '>', [44] EmptyElemTag ::= '<' Name (S Attribute)* S? '/>', by the end: its name is n, those of
-- its attributes are ns; WFC Unique Att Spec
pub data StartTag (end : Rule) (n : Name) (ns : List Name) : (s t : List ℕ) → Type 0 where
  tag : {s a b t : List ℕ} → Reads (text "<") s (n ++ a) → Reads NameRule (n ++ a) a → Attributes ns a b → Reads (opt S ⨾ end) b t
      → Unique ns → StartTag end n ns s t

-- [42] ETag ::= '</' Name S? '>', and its name is n
pub data EndTag (n : Name) : (s t : List ℕ) → Type 0 where
  tag : {s a t : List ℕ} → Reads (text "</") s (n ++ a) → Reads NameRule (n ++ a) a → Reads (opt S ⨾ text ">") a t → EndTag n s t

-- `Fits k n ns` is asked of an element at level k, of its name and of its attributes' names
module _ (Fits : ℕ → Name → List Name → Type 0) where
  mutual
    -- [39] element ::= EmptyElemTag | STag content ETag; WFC Element Type Match
    pub data Element : (k : ℕ) (s t : List ℕ) → Type 0 where
      hollow : {k : ℕ} {n : Name} {ns : List Name} {s t : List ℕ} → StartTag (text "/>") n ns s t → Fits k n ns → Element k s t
      tagged : {k : ℕ} {n : Name} {ns : List Name} {s a b t : List ℕ} → StartTag (text ">") n ns s a → Fits k n ns → Content k a b
          → EndTag n b t → Element k s t

    -- [43] content ::= CharData? ((element | Reference | CDSect | PI | Comment) CharData?)*, inside an element of level k
    pub data Content : (k : ℕ) (s t : List ℕ) → Type 0 where
      content : {k : ℕ} {s a t : List ℕ} → Reads (opt CharData) s a → Pieces k a t → Content k s t

    -- ((element | Reference | CDSect | PI | Comment) CharData?)*
    pub data Pieces : (k : ℕ) (s t : List ℕ) → Type 0 where
      done : {k : ℕ} {s : List ℕ} → Pieces k s s
      more : {k : ℕ} {s a b t : List ℕ} → Piece k s a → Reads (opt CharData) a b → Pieces k b t → Pieces k s t

    -- element | Reference | CDSect | PI | Comment
    pub data Piece : (k : ℕ) (s t : List ℕ) → Type 0 where
      element : {k : ℕ} {s t : List ℕ} → Element (suc k) s t → Piece k s t
      other : {k : ℕ} {s t : List ℕ} → Reads (Reference ∣ CDSect ∣ PI ∣ Comment) s t → Piece k s t

  -- [1] document ::= prolog element Misc*
  -- [22] prolog ::= XMLDecl? Misc* (doctypedecl Misc*)?, without its doctypedecl; [27] Misc ::= Comment | PI | S
  -- Section 4.3.3: where there is a declaration, it names no encoding but UTF-8.
  pub data Derived : (s : List ℕ) → Type 0 where
    document : {s a b : List ℕ} → Reads (opt Utf8Decl ⨾ Misc ∗) s a → Element 1 a b → Reads (Misc ∗) b [] → Derived s
