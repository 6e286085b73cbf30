-- The mended document: what is kept, "and then writes the end tags that are missing, innermost first". It is made of the document of
-- characters, `readable`, that is judged.
use Rattle.std.specs.Prelude.{Bool, List, [], ◌∷◌, ◌++◌, ℕ, length, take}
use Rattle.xml.specs.Forest.{Name, end_tag}
use Rattle.mend.specs.Kept.{Kept, readable, kept_of}

-- `</`, name, `>` for each; the names of open elements stand innermost first
abbrev pub end_tags : List Name → List ℕ
end_tags [] = []
end_tags (n ∷ ns) = end_tag n ++ end_tags ns

-- of a document of characters, by what is kept of it
abbrev pub mended_by : List ℕ → Kept → List ℕ
mended_by d k = take k.bytes d ++ end_tags k.opened.names

module _ (d : List ℕ) where
  unfoldable pub bytes_kept : ℕ
  bytes_kept = (kept_of (readable d)).bytes

  -- the names of the end tags that are missing
  unfoldable pub missing : List Name
  missing = (kept_of (readable d)).opened.names

  -- a root tag was kept
  unfoldable pub root_kept : Bool
  root_kept = (kept_of (readable d)).opened.rooted

  unfoldable pub tags_added : ℕ
  tags_added = length missing

  unfoldable pub mended_of : List ℕ
  mended_of = mended_by (readable d) (kept_of (readable d))
