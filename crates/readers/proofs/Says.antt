-- Each reader gives an answer that says what specs/Says has, and no other answer says it, wherever only characters are left. First the
-- laws for any reader that finds what is read, then by a rule of the grammar; then each production, and text.
use mathlib.Core.Path.{◌≡◌, refl, sym, ap, ◌∙◌}
use mathlib.Core.List.{List}
use mathlib.Core.Option.{Option as Maybe, none, some, none-ne-some}
use Prim.Native.Nat.{ℕ, ◌≤◌}
use lib.ListN.{length, drop}
use Rattle.xml.specs.Notation.{Rule, Reads}
use Rattle.xml.specs.Productions.{CharData, Comment, CDSect, AttValue, PI, XMLDecl}
use Rattle.xml.proofs.Language.{reads_suffix}
use Rattle.utf8.proofs.Place.{stands_ends}
use Rattle.chars.specs.Name.{reading_at}
use Rattle.std.specs.Prelude.{Option, Some, None}
use Rattle.readers.specs.Plain.{text_of, comment_of, section_of}
use Rattle.readers.specs.Value.{value_of}
use Rattle.readers.specs.Named.{instruction_of, declaration_of}
use Rattle.readers.specs.Meaning.{Chars, Decides, TextIs}
use Rattle.readers.specs.Says.{Says, ReadingSays, TextSays}
use Rattle.readers.proofs.Left.{End, end_stands, end_ahead}
use Rattle.readers.proofs.Plain.{comment_decides, section_decides, text_sound, text_complete}
use Rattle.readers.proofs.Value.{value_decides}
use Rattle.readers.proofs.Instruction.{instruction_decides}
use Rattle.readers.proofs.Declaration.{declaration_decides}

-- ---- a reader that finds what R reads

record Finds (R : List ℕ → List ℕ → Type 0) (f : List ℕ → Maybe (List ℕ)) : Type 0 where
  suffix : {s t : List ℕ} → R s t → End s t
  sound : {s t : List ℕ} → Chars s → f s ≡ some t → R s t
  complete : {s t : List ℕ} → Chars s → R s t → f s ≡ some t

module _ {R : List ℕ → List ℕ → Type 0} {f : List ℕ → Maybe (List ℕ)} (k : Finds R f) (d : List ℕ) (at : ℕ) (c : Chars (drop at d)) where
  says : at ≤ length d → Says R d at (reading_at d at (f (drop at d)))
  says l = go (f (drop at d)) refl
    where
      go : (o : Maybe (List ℕ)) → f (drop at d) ≡ o → Says R d at (reading_at d at o)
      go none q = λ t x. none-ne-some t (sym q ∙ k.complete c x)
      go (some t) q =
          let x = k.sound c q in
          let p = end_stands d at l (k.suffix x) in
          (rw p.rest x, end_ahead d at t, p.inside)

  says_only : (r : Option ℕ) → Says R d at r → r ≡ reading_at d at (f (drop at d))
  says_only (Some e) (x, l, h) =
      ap Some (stands_ends at (record { rest = refl; inside = h }) l) ∙ ap (reading_at d at) (sym (k.complete c x))
  says_only None n = go (f (drop at d)) refl
    where
      go : (o : Maybe (List ℕ)) → f (drop at d) ≡ o → None ≡ reading_at d at o
      go none q = refl
      go (some t) q = absurd (n t (k.sound c q))

-- ---- by a rule

module _ {r : Rule} {f : List ℕ → Maybe (List ℕ)} (k : Decides r f) where
  finds : Finds (Reads r) f
  finds =
      record {
        suffix = λ {s} {t} x. reads_suffix r s t x;
        sound = λ {s} {t} d e. k.sound d e;
        complete = λ {s} {t} d x. k.complete d x;
      }

  pub reading_says : (d : List ℕ) (at : ℕ) → Chars (drop at d) → at ≤ length d → ReadingSays r d at (reading_at d at (f (drop at d)))
  reading_says = says finds

  pub reading_only : (d : List ℕ) (at : ℕ) → Chars (drop at d) → (r' : Option ℕ) → ReadingSays r d at r'
      → r' ≡ reading_at d at (f (drop at d))
  reading_only = says_only finds

-- ---- each production

finds_text : Finds TextIs text_of
finds_text =
    record {
      suffix = λ {s} {t} x. reads_suffix CharData s t x.reads;
      sound = λ {s} {t} d e. text_sound d e;
      complete = λ {s} {t} d x. text_complete d x;
    }

module _ (d : List ℕ) (at : ℕ) (c : Chars (drop at d)) where
  pub comment_says : at ≤ length d → ReadingSays Comment d at (reading_at d at (comment_of (drop at d)))
  comment_says = reading_says comment_decides d at c

  pub comment_only : (r : Option ℕ) → ReadingSays Comment d at r → r ≡ reading_at d at (comment_of (drop at d))
  comment_only = reading_only comment_decides d at c

  pub section_says : at ≤ length d → ReadingSays CDSect d at (reading_at d at (section_of (drop at d)))
  section_says = reading_says section_decides d at c

  pub section_only : (r : Option ℕ) → ReadingSays CDSect d at r → r ≡ reading_at d at (section_of (drop at d))
  section_only = reading_only section_decides d at c

  pub value_says : at ≤ length d → ReadingSays AttValue d at (reading_at d at (value_of (drop at d)))
  value_says = reading_says value_decides d at c

  pub value_only : (r : Option ℕ) → ReadingSays AttValue d at r → r ≡ reading_at d at (value_of (drop at d))
  value_only = reading_only value_decides d at c

  pub instruction_says : at ≤ length d → ReadingSays PI d at (reading_at d at (instruction_of (drop at d)))
  instruction_says = reading_says instruction_decides d at c

  pub instruction_only : (r : Option ℕ) → ReadingSays PI d at r → r ≡ reading_at d at (instruction_of (drop at d))
  instruction_only = reading_only instruction_decides d at c

  pub declaration_says : at ≤ length d → ReadingSays XMLDecl d at (reading_at d at (declaration_of (drop at d)))
  declaration_says = reading_says declaration_decides d at c

  pub declaration_only : (r : Option ℕ) → ReadingSays XMLDecl d at r → r ≡ reading_at d at (declaration_of (drop at d))
  declaration_only = reading_only declaration_decides d at c

  pub text_says : at ≤ length d → TextSays d at (reading_at d at (text_of (drop at d)))
  text_says = says finds_text d at c

  pub text_only : (r : Option ℕ) → TextSays d at r → r ≡ reading_at d at (text_of (drop at d))
  text_only = says_only finds_text d at c
