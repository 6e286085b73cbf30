-- What is left of a document, by the names that are open, innermost first: content, an end tag of the first name, and then the same for the
-- names outside it; with no name open, what stands after the root. `b` tells whether text may come first. In order: the end tags of the
-- names alone; an item before what is left, one lemma for each kind; the root's start.
use mathlib.Core.Path.{◌≡◌}
use mathlib.Core.Bool.{Bool, true, false, ◌||◌, false≢true}
use mathlib.Core.List.{List, [], ◌∷◌}
use Prim.Native.Nat.{ℕ, suc}
use lib.ListN.{length}
use Rattle.xml.specs.Notation.{text}
use Rattle.xml.specs.Productions.{Name as NameRule, PI, Comment, CDSect, Reference, CharData, S}
use Rattle.xml.specs.Language.{Language}
use Rattle.xml.specs.Forest.{Name, Tag, Forest, end_tag}
use Rattle.xml.specs.Document.{Opens, Closes, Item, Some, Small, Content, After, Rooted}
use Rattle.xml.specs.Document as doc
use Rattle.document.specs.Place.{some}
use Rattle.demands.proofs.Reread.{shut_closes, end_shut}
use Rattle.mend.specs.Mended.{end_tags}

pub data Left : List Name → Bool → List ℕ → Type 0 where
  outer : {b : Bool} {s : List ℕ} {f : Forest} → After Small b s f → Left [] b s
  inner : {n : Name} {ns : List Name} {b : Bool} {raw s t u : List ℕ} {f : Forest} → Content Small (suc (length ns)) b s t f
      → Closes n raw t u → Left ns true u → Left (n ∷ ns) b s

-- ---- the end tags that are missing

-- names that a tag may have
abbrev pub Named : List Name → Type 0
Named [] = Unit {0}
Named (n ∷ ns) = Language NameRule n × Named ns

pub left_ends : (ns : List Name) → Named ns → (b : Bool) → Left ns b (end_tags ns)
left_ends [] h b = outer doc.over
left_ends (n ∷ ns) (h, k) b = inner doc.end (shut_closes n (end_tag n) (end_tags ns) (end_shut n h)) (left_ends ns k true)

-- ---- an item before what is left

pub left_instruction : {ns : List Name} {b : Bool} {raw s m : List ℕ} → Item PI raw s m → Left ns true m → Left ns b s
left_instruction i (outer a) = outer (doc.instruction_after i a)
left_instruction i (inner c z r) = inner (doc.instruction_next i c) z r

pub left_comment : {ns : List Name} {b : Bool} {raw s m : List ℕ} → Item Comment raw s m → Left ns true m → Left ns b s
left_comment i (outer a) = outer (doc.comment_after i a)
left_comment i (inner c z r) = inner (doc.comment_next i c) z r

pub left_section : {ns : List Name} {b : Bool} {raw s m : List ℕ} → Item CDSect raw s m → some ns ≡ true → Left ns true m → Left ns b s
left_section i q (outer a) = absurd (false≢true q)
left_section i q (inner c z r) = inner (doc.section_next i c) z r

pub left_reference : {ns : List Name} {b : Bool} {raw s m : List ℕ} → Item Reference raw s m → some ns ≡ true → Left ns true m
    → Left ns b s
left_reference i q (outer a) = absurd (false≢true q)
left_reference i q (inner c z r) = inner (doc.reference_next i c) z r

-- blank text may stand outside the root
pub left_text : {ns : List Name} {x : Bool} {raw s m : List ℕ} → Some raw → Item CharData raw s m → (x ≡ true → Item S raw s m)
    → some ns || x ≡ true → Left ns false m → Left ns true s
left_text n i w q (outer a) = outer (doc.space_after (w q) a)
left_text n i w q (inner c z r) = inner (doc.data_next n i c) z r

pub left_empty : {ns : List Name} {b : Bool} {v : Tag} {ns' : List Name} {s m : List ℕ} → Opens (text "/>") v ns' s m
    → Small (suc (length ns)) v.name ns' → some ns ≡ true → Left ns true m → Left ns b s
left_empty o k q (outer a) = absurd (false≢true q)
left_empty o k q (inner c z r) = inner (doc.empty_next o k c) z r

pub left_start : {ns : List Name} {b : Bool} {v : Tag} {ns' : List Name} {s m : List ℕ} → Opens (text ">") v ns' s m
    → Small (suc (length ns)) v.name ns' → some ns ≡ true → Left (v.name ∷ ns) true m → Left ns b s
left_start o k q (inner c z (outer a)) = absurd (false≢true q)
left_start o k q (inner c z (inner c' z' r)) = inner (doc.element_next o k c z c') z' r

pub left_finish : {n : Name} {ns : List Name} {b : Bool} {raw s m : List ℕ} → Closes n raw s m → Left ns true m → Left (n ∷ ns) b s
left_finish z r = inner doc.end z r

-- ---- before the root

abbrev pub Roots : Bool → List ℕ → Type 0
Roots b s = (f : Forest) × Rooted Small b s f

pub roots_start : {b : Bool} {v : Tag} {ns' : List Name} {s m : List ℕ} → Opens (text ">") v ns' s m → Small 1 v.name ns'
    → Left (v.name ∷ []) true m → Roots b s
roots_start o k (inner c z (outer a)) = (_, doc.root o k c z a)

pub roots_empty : {b : Bool} {v : Tag} {ns' : List Name} {s m : List ℕ} → Opens (text "/>") v ns' s m → Small 1 v.name ns'
    → Left [] true m → Roots b s
roots_empty o k (outer a) = (_, doc.empty_root o k a)
