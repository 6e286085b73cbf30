-- The productions of the document as a whole, [1] [22] [27] [39] [43], with its forest; the constraints Element Type Match and Unique Att
-- Spec; and sizes. A document has no document type, and its declaration says UTF-8 or names no encoding: Encoding.antt. In order: what a
-- tag holds; content, with the elements in it; what stands outside the root; the document; sizes. The flags give a text one forest and
-- take no text away: `plainly`, proofs/Plainly.antt.
use Rattle.std.specs.Prelude.{◌≡◌, Bool, true, false, List, [], ◌∷◌, ◌++◌, ℕ, suc, ◌≤◌, length}
use Rattle.xml.specs.Notation.{Rule, Reads, text, opt}
use Rattle.xml.specs.Productions.{S, Name as NameRule, Eq, AttValue, Reference, CharData, Comment, PI, CDSect}
use Rattle.xml.specs.Encoding.{Utf8Decl}
use Rattle.xml.specs.Forest.{Name, Tag, Forest, nil, other, elem}

-- ---- tags

-- (S Attribute)*, [41] Attribute ::= Name Eq AttValue, with the attributes' names
pub data Attributes : List Name → List ℕ → List ℕ → Type 0 where
  done : {s : List ℕ} → Attributes [] s s
  more : {n : Name} {ns : List Name} {s a b c e t : List ℕ} → Reads S s a → Reads NameRule a b → a ≡ n ++ b → Reads Eq b c
      → Reads AttValue c e → Attributes ns e t → Attributes (n ∷ ns) s t

-- WFC Unique Att Spec: no attribute name stands twice in a tag
abbrev pub Other : Name → List Name → Type 0
Other n [] = Unit {0}
Other n (m ∷ ns) = (n ≡ m → ⊥) × Other n ns

abbrev pub Unique : List Name → Type 0
Unique [] = Unit {0}
Unique (n ∷ ns) = Other n ns × Unique ns

-- [40] STag, or [44] EmptyElemTag, by its end: '<' Name (S Attribute)* S? and then '>' or '/>'. At the front of s stands the tag v with
-- these attributes, and t is what follows it.
pub record Opens (end : Rule) (v : Tag) (attributes : List Name) (s t : List ℕ) : Type 0 where
  pub from : List ℕ
  pub to : List ℕ
  pub after : List ℕ
  pub last : List ℕ
  pub opens : Reads (text "<") s from
  pub named : Reads NameRule from to
  pub name_is : from ≡ v.name ++ to
  pub listed : Attributes attributes to after
  pub blank : Reads (opt S) after last
  pub closes : Reads end last t
  pub head_is : s ≡ v.head ++ last
  pub tail_is : last ≡ v.tail ++ t
  pub unique : Unique attributes

-- [42] ETag: '</' Name S? '>', with its name n; its bytes are raw
pub record Closes (n : Name) (raw s t : List ℕ) : Type 0 where
  pub from : List ℕ
  pub to : List ℕ
  pub last : List ℕ
  pub opens : Reads (text "</") s from
  pub named : Reads NameRule from to
  pub name_is : from ≡ n ++ to
  pub blank : Reads (opt S) to last
  pub closes : Reads (text ">") last t
  pub raw_is : s ≡ raw ++ t

-- what a rule derives, with its bytes
pub record Item (r : Rule) (raw s t : List ℕ) : Type 0 where
  pub reads : Reads r s t
  pub raw_is : s ≡ raw ++ t

abbrev pub Some : List ℕ → Type 0
Some [] = ⊥
Some (b ∷ s) = Unit {0}

-- ---- content and elements; `Fits k n ns` is asked of an element at level k, of its name and of its attributes' names

module _ (Fits : ℕ → Name → List Name → Type 0) where
  -- [43] content ::= CharData? ((element | Reference | CDSect | PI | Comment) CharData?)*
  -- [39] element ::= EmptyElemTag | STag content ETag, with WFC Element Type Match
  -- Inside an element of level k; `chars` tells whether CharData may come first: it does not stand beside CharData, and it is not empty.
  pub data Content : (k : ℕ) (chars : Bool) (s t : List ℕ) (f : Forest) → Type 0 where
    end : {k : ℕ} {chars : Bool} {s : List ℕ} → Content k chars s s nil
    data_next : {k : ℕ} {raw s m t : List ℕ} {f : Forest} → Some raw → Item CharData raw s m → Content k false m t f
        → Content k true s t (other raw f)
    reference_next : {k : ℕ} {chars : Bool} {raw s m t : List ℕ} {f : Forest} → Item Reference raw s m → Content k true m t f
        → Content k chars s t (other raw f)
    section_next : {k : ℕ} {chars : Bool} {raw s m t : List ℕ} {f : Forest} → Item CDSect raw s m → Content k true m t f
        → Content k chars s t (other raw f)
    instruction_next : {k : ℕ} {chars : Bool} {raw s m t : List ℕ} {f : Forest} → Item PI raw s m → Content k true m t f
        → Content k chars s t (other raw f)
    comment_next : {k : ℕ} {chars : Bool} {raw s m t : List ℕ} {f : Forest} → Item Comment raw s m → Content k true m t f
        → Content k chars s t (other raw f)
    empty_next : {k : ℕ} {chars : Bool} {v : Tag} {ns : List Name} {s m t : List ℕ} {f : Forest} → Opens (text "/>") v ns s m
        → Fits (suc k) v.name ns → Content k true m t f → Content k chars s t (elem v nil [] f)
    element_next : {k : ℕ} {chars : Bool} {v : Tag} {ns : List Name} {raw s a b m t : List ℕ} {kids f : Forest}
        → Opens (text ">") v ns s a → Fits (suc k) v.name ns → Content (suc k) true a b kids → Closes v.name raw b m
        → Content k true m t f → Content k chars s t (elem v kids raw f)

  -- ---- outside the root: [27] Misc ::= Comment | PI | S

  -- Misc* and then the end; white space does not stand beside white space
  pub data After : (space : Bool) (s : List ℕ) (f : Forest) → Type 0 where
    over : {space : Bool} → After space [] nil
    space_after : {raw s m : List ℕ} {f : Forest} → Item S raw s m → After false m f → After true s (other raw f)
    instruction_after : {space : Bool} {raw s m : List ℕ} {f : Forest} → Item PI raw s m → After true m f → After space s (other raw f)
    comment_after : {space : Bool} {raw s m : List ℕ} {f : Forest} → Item Comment raw s m → After true m f → After space s (other raw f)

  -- Misc* element Misc*
  pub data Rooted : (space : Bool) (s : List ℕ) (f : Forest) → Type 0 where
    space_before : {raw s m : List ℕ} {f : Forest} → Item S raw s m → Rooted false m f → Rooted true s (other raw f)
    instruction_before : {space : Bool} {raw s m : List ℕ} {f : Forest} → Item PI raw s m → Rooted true m f
        → Rooted space s (other raw f)
    comment_before : {space : Bool} {raw s m : List ℕ} {f : Forest} → Item Comment raw s m → Rooted true m f
        → Rooted space s (other raw f)
    empty_root : {space : Bool} {v : Tag} {ns : List Name} {s m : List ℕ} {f : Forest} → Opens (text "/>") v ns s m
        → Fits 1 v.name ns → After true m f → Rooted space s (elem v nil [] f)
    root : {space : Bool} {v : Tag} {ns : List Name} {raw s a b m : List ℕ} {kids f : Forest} → Opens (text ">") v ns s a
        → Fits 1 v.name ns → Content 1 true a b kids → Closes v.name raw b m → After true m f → Rooted space s (elem v kids raw f)

  -- ---- [1] document ::= prolog element Misc*, [22] prolog ::= XMLDecl? Misc*; section 4.3.3: the declaration names no encoding but UTF-8

  pub data Document : (s : List ℕ) (f : Forest) → Type 0 where
    declared : {raw s m : List ℕ} {f : Forest} → Item Utf8Decl raw s m → Rooted true m f → Document s (other raw f)
    bare : {s : List ℕ} {f : Forest} → Rooted true s f → Document s f

-- ---- sizes: names of 255 bytes, depth 64, 32 attributes a tag

abbrev pub AllShort : List Name → Type 0
AllShort [] = Unit {0}
AllShort (n ∷ ns) = (length n ≤ 255) × AllShort ns

abbrev pub Small : ℕ → Name → List Name → Type 0
Small k n ns = (k ≤ 64) × (length n ≤ 255) × (length ns ≤ 32) × AllShort ns
