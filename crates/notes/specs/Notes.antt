-- What notes stand for. In order: a note, which is one number; the text of one; the text of the first k; whether they are inside the
-- document; and the log after a note is made. A log has room for so many notes as it is long. A count over that says that some were left
-- out.
use Rattle.std.specs.Prelude.{◌≡◌, Bool, false, cond, List, [], ◌∷◌, ◌++◌, ℕ, zero, suc, ◌+◌, ◌-◌, ◌*◌, ◌/◌, ◌%◌, ◌≤◌, ◌<◌, ltb, eqb}
use Rattle.std.specs.Prelude.{length, get_or, set}
use Rattle.xml.specs.Forest.{start_tag, end_tag}
use Rattle.trees.specs.Grown.{part}

-- ---- a note

abbrev pub word_of : ℕ → ℕ → ℕ → ℕ
word_of kind from size = from * 134217728 + size * 4 + kind

abbrev pub kind_of : ℕ → ℕ
kind_of w = w % 4

abbrev pub from_of : ℕ → ℕ
from_of w = w / 134217728 % 33554432

abbrev pub size_of : ℕ → ℕ
size_of w = w / 4 % 33554432

-- bytes as they stand; the bare start tag and the end tag of a name; the head of a tag, and its end
abbrev pub as_kind : ℕ → List ℕ → List ℕ
as_kind zero s = s
as_kind (suc zero) s = start_tag s
as_kind (suc (suc zero)) s = end_tag s
as_kind (suc (suc (suc k))) s = s ++ (62 ∷ [])

unfoldable pub note_text : List ℕ → ℕ → List ℕ
note_text d w = as_kind (kind_of w) (part d (from_of w) (from_of w + size_of w))

-- ---- the first k notes of a log

abbrev pub text_of : List ℕ → List ℕ → ℕ → List ℕ
text_of d g zero = []
text_of d g (suc k) = text_of d g k ++ note_text d (get_or g k 0)

pub record Within (d g : List ℕ) (k : ℕ) : Type 0 where
  pub inside : (i : ℕ) → i < k → from_of (get_or g i 0) + size_of (get_or g i 0) ≤ length d

-- ---- a note is made

abbrev pub count_after : List ℕ → ℕ → ℕ
count_after g k = cond (ltb k (length g)) (k + 1) (length g + 1)

-- a note of bytes as they stand, which end at a place
abbrev pub ends_at : ℕ → ℕ → Bool
ends_at w at = cond (eqb (kind_of w) 0) (eqb (from_of w + size_of w) at) false

-- the last of k notes is one
unfoldable pub joins : List ℕ → ℕ → ℕ → Bool
joins g k at = cond (eqb k 0) false (cond (ltb (length g) k) false (ends_at (get_or g (k - 1) 0) at))

abbrev pub count_joined : List ℕ → ℕ → ℕ → ℕ
count_joined g k at = cond (joins g k at) k (count_after g k)

-- a note of so many bytes more
abbrev pub longer : ℕ → ℕ → ℕ
longer w size = word_of 0 (from_of w) (size_of w + size)

abbrev pub log_joined : List ℕ → ℕ → ℕ → ℕ → List ℕ
log_joined g k at size = cond (joins g k at) (set g (k - 1) (longer (get_or g (k - 1) 0) size)) (set g k (word_of 0 at size))

-- ---- what making some notes comes to: unless one was left out, they stand for s after what was noted before
pub record Noted (d g : List ℕ) (k : ℕ) (s : List ℕ) (k' : ℕ) (g' : List ℕ) : Type 0 where
  pub fewer : k' ≤ length g → k ≤ length g
  pub adds : k' ≤ length g → text_of d g' k' ≡ text_of d g k ++ s
  pub within : k' ≤ length g → Within d g k → Within d g' k'
  pub same : length g' ≡ length g

-- the k notes stand for w, unless one was left out
pub record Stood (d g : List ℕ) (k : ℕ) (w : List ℕ) : Type 0 where
  pub text : k ≤ length g → text_of d g k ≡ w
  pub inside : k ≤ length g → Within d g k
