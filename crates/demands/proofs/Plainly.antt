-- Demand 2, of documents, by the productions as the Recommendation prints them: `accepted_plainly`, a document is accepted exactly when
-- they derive it, within the sizes of document 01. In order: the theorem; texts that are derived and texts that are not, two tables, each
-- under one statement; what decides them is computed, `judge_of`.
use mathlib.Core.Path.{◌≡◌, refl}
use mathlib.Core.Bool.{Bool, true, false, not, ◌&&◌, false≢true}
use mathlib.Core.List.{List, [], ◌∷◌, ◌++◌}
use mathlib.Core.Logic.{◌↔◌}
use Prim.Native.Nat.{ℕ, zero, suc, ◌≤◌}
use borrow.Author.Tests.{eqb-true, leb-true}
use lib.Dec.{eqb, leb}
use lib.ListN.{length, drop}
use Rattle.std.specs.Prelude.{Result, Ok, Err, ⊤}
use Rattle.xml.specs.Utf8.{utf8, is_scalar}
use Rattle.xml.specs.Notation.{bytes}
use Rattle.xml.specs.Productions.{is_char, is_space, is_name_start, is_name_more, is_name, digit_of}
use Rattle.xml.specs.Character.{value_of as number, guess, character, starts, run}
use Rattle.xml.specs.Document.{Small}
use Rattle.xml.specs.Plainly.{Derived}
use Rattle.xml.proofs.Bools.{and_left, and_right}
use Rattle.xml.proofs.Plainly.{document_plain, plain_document}
use Rattle.utf8.specs.Place.{ends_at}
use Rattle.chars.specs.Name.{name_of}
use Rattle.chars.specs.Space.{space_end}
use Rattle.chars.specs.Check.{check_of}
use Rattle.paths.specs.Path.{All, none, more}
use Rattle.readers.specs.Meaning.{Chars}
use Rattle.readers.specs.Read.{expect, seek, skip, space_of, many}
use Rattle.readers.specs.Plain.{is_mark, text_of, comment_of, section_of}
use Rattle.readers.specs.Value.{is_decimal, is_hexadecimal, ends_number, digits_of, char_ref_of, entity_ref_of, reference_of}
use Rattle.readers.specs.Value.{piece_of, quoted_of, value_of}
use Rattle.readers.specs.Named.{before, target_of, instruction_end, instruction_of, eq_of, version_of, is_letter, is_encoding, encoding_of}
use Rattle.readers.specs.Named.{yes_or_no, declaration_of, other_of, other_encoding, piece_named, attribute_of, gather, tag_of, end_tag_of}
use Rattle.readers.specs.Named.{small_tag}
use Rattle.tags.specs.Tag.{tag_at, end_tag_at}
use Rattle.items.specs.Item.{declares, kind_of, item_at}
use Rattle.document.specs.Place.{blank}
use Rattle.document.specs.Judge.{start_of, scan_from, scanned, judge_of}
use Rattle.document.specs.declared.DocumentError.{DocumentError}
use Rattle.document.specs.declared.DocumentError.TheVariants.{TooLong, OtherEncoding, NotChar, At}
use Rattle.demands.proofs.Accepted.{accepted}
use Rattle.demands.proofs.Characters.{document_chars}

-- "A document is accepted exactly when it is in UTF-8 and keeps XML 1.0 (Fifth Edition) without a document type, within the stated sizes"
pub accepted_plainly : (d : List ℕ) → judge_of d ≡ Ok tt ↔ ((length d ≤ 16777216) × Chars d × Derived Small (drop (start_of d) d))
accepted_plainly d = (
  λ e. let (l, c, (f, x)) = (accepted d).0 e in (l, c, document_plain Small x),
  λ (l, c, x). (accepted d).1 (l, c, plain_document Small x),
)

-- ---- texts

-- n times w; n elements, one in the other
abbrev times : ℕ → List ℕ → List ℕ
times zero w = []
times (suc n) w = w ++ times n w

abbrev nested : ℕ → List ℕ
nested n = times n (bytes "<a>") ++ times n (bytes "</a>")

-- CharData may be empty, and Misc* may have S beside S; `]]` alone is CharData; depth 64
pub derived : List (List ℕ)
derived =
    bytes "<g/>"
    ∷ bytes "<g></g >"
    ∷ bytes "<g>a<v/>b<w></w> </g>"
    ∷ bytes "<g>&lt;a&#65;<![CDATA[<]]>c<!----> <?p?></g>"
    ∷ bytes "<g a='1' b = \"2\" />"
    ∷ bytes "<g>]]&gt; ]] ></g>"
    ∷ bytes " \n<g/>\t \n"
    ∷ bytes "<?xml version='1.0'?>\n<!-- a -->\n\n<?p?> <g/><!-- b --><?q r?> "
    ∷ bytes "<?xml version='1.0' encoding='utf-8'?><g/>"
    ∷ bytes "<?xml version=\"1.1\" encoding=\"UTF-8\" standalone='yes' ?><g/>"
    ∷ nested 64
    ∷ []

-- no root, two roots, text outside it; tags that do not match, or are not closed; a declaration that is not first, or names
-- another encoding; an attribute name twice; `]]>` and `<` in CharData; a document type; depth 65
pub underived : List (List ℕ)
underived =
    bytes ""
    ∷ bytes " \n"
    ∷ bytes "<g/><h/>"
    ∷ bytes "a<g/>"
    ∷ bytes "<g/>&lt;"
    ∷ bytes "<g/><![CDATA[]]>"
    ∷ bytes "<g>"
    ∷ bytes "</g>"
    ∷ bytes "<g></h>"
    ∷ bytes "<g><v></g></v>"
    ∷ bytes " <?xml version='1.0'?><g/>"
    ∷ bytes "<?xml version='1.0' encoding='ISO-8859-1'?><g/>"
    ∷ bytes "<?xml version='1.0' encoding='UTF8'?><g/>"
    ∷ bytes "<g a='1' a='2'/>"
    ∷ bytes "<g>]]></g>"
    ∷ bytes "<g>a<</g>"
    ∷ bytes "<!DOCTYPE g><g/>"
    ∷ nested 65
    ∷ []

-- ---- what is computed of them: how they are judged, that no byte order mark stands in front, and that they are short

abbrev is_sound : Result ⊤ DocumentError → Bool
is_sound (Ok _) = true
is_sound (Err TooLong) = false
is_sound (Err (OtherEncoding o)) = false
is_sound (Err (NotChar o)) = false
is_sound (Err (At w o)) = false

abbrev every : (List ℕ → Bool) → List (List ℕ) → Bool
every f [] = true
every f (d ∷ ds) = f d && every f ds

-- judged as b says
abbrev sorted : Bool → List ℕ → Bool
sorted true d = is_sound (judge_of d) && (eqb (start_of d) 0 && leb (length d) 16777216)
sorted false d = not (is_sound (judge_of d)) && (eqb (start_of d) 0 && leb (length d) 16777216)

tables_computed : every (sorted true) derived && every (sorted false) underived ≡ true
unfolding derived underived judge_of scanned scan_from start_of blank check_of space_end item_at kind_of declares ends_at tag_at end_tag_at
    tag_of end_tag_of piece_named before gather attribute_of small_tag instruction_of instruction_end target_of declaration_of version_of
    encoding_of other_of other_encoding yes_or_no text_of comment_of section_of eq_of space_of skip value_of quoted_of many piece_of is_mark
    reference_of entity_ref_of char_ref_of digits_of ends_number digit_of is_decimal is_hexadecimal is_letter is_encoding is_char name_of
    expect seek starts run character guess number utf8 is_scalar is_space is_name is_name_start is_name_more
tables_computed = refl

-- ---- so they are derived, or not

sound_is : (j : Result ⊤ DocumentError) → is_sound j ≡ true → j ≡ Ok tt
sound_is (Ok _) e = refl
sound_is (Err TooLong) e = absurd (false≢true e)
sound_is (Err (OtherEncoding o)) e = absurd (false≢true e)
sound_is (Err (NotChar o)) e = absurd (false≢true e)
sound_is (Err (At w o)) e = absurd (false≢true e)

module _ (d : List ℕ) where
  sorted_derived : sorted true d ≡ true → Derived Small d
  sorted_derived e =
      let s = sound_is (judge_of d) (and_left (is_sound (judge_of d)) _ e) in
      let z = eqb-true (start_of d) 0 (and_left (eqb (start_of d) 0) _ (and_right (is_sound (judge_of d)) _ e)) in
      rw z at ((accepted_plainly d).0 s).2

  sorted_underived : sorted false d ≡ true → ¬ Derived Small d
  sorted_underived e h =
      let r = and_right (not (is_sound (judge_of d))) _ e in
      let z = eqb-true (start_of d) 0 (and_left (eqb (start_of d) 0) _ r) in
      let l = leb-true (length d) 16777216 (and_right (eqb (start_of d) 0) _ r) in
      let (f, x) = plain_document Small h in
      let s : judge_of d ≡ Ok tt = (accepted_plainly d).1 (l, document_chars x, rw z h) in
      false≢true (rw s at (and_left (not (is_sound (judge_of d))) _ e))

every_all : {P : List ℕ → Type 0} (f : List ℕ → Bool) → ((d : List ℕ) → f d ≡ true → P d) → (ds : List (List ℕ)) → every f ds ≡ true
    → All P ds
every_all f h [] e = none
every_all f h (d ∷ ds) e = more (h d (and_left (f d) _ e)) (every_all f h ds (and_right (f d) _ e))

pub texts_derived : All (λ d. Derived Small d) derived
texts_derived = every_all (sorted true) sorted_derived derived (and_left (every (sorted true) derived) _ tables_computed)

pub texts_underived : All (λ d. ¬ Derived Small d) underived
texts_underived = every_all (sorted false) sorted_underived underived (and_right (every (sorted true) derived) _ tables_computed)
