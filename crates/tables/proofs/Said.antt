-- What an item says by its bytes is what it says by its production, and each item that content has says something. In order: characters by
-- their first byte; line ends; an item; the text of an element.
use mathlib.Core.Path.{◌≡◌, refl, sym, ap, ◌∙◌}
use mathlib.Core.Bool.{Bool, true, false, false≢true}
use mathlib.Core.List.{List, [], ◌∷◌, ◌++◌, map, append_assoc, append-nil}
use mathlib.Core.Logic.{inl}
use Prim.Native.Nat.{ℕ, suc, ◌+◌, ◌-◌, ◌≤◌, ◌<◌}
use native.Mathlib.Omega.{arith}
use borrow.Author.Tests.{eqb-true, eqb-false, ne_eqb, ltb-true, ltb-false}
use lib.Dec.{eqb, ltb}
use lib.ListN.{length, length-append}
use lib.Seq.{take-append_seam}
use Rattle.xml.specs.Utf8.{utf8}
use Rattle.xml.specs.Notation.{Rule, Reads, bytes}
use Rattle.xml.specs.Character.{begins}
use Rattle.xml.specs.Productions.{is_char, except, CharData, CDSect, Reference, Comment, PI}
use Rattle.xml.specs.Sign.{Sign, literal, Where, in_text, in_section, Refers, itself, said, Signs, next, Sectioned}
use Rattle.xml.specs.Sign as sign
use Rattle.xml.specs.Forest.{Name, Forest, other}
use Rattle.xml.specs.Document as doc
use Rattle.xml.specs.Document.{Item, Content}
use Rattle.xml.proofs.Language.{reads_frame}
use Rattle.xml.proofs.Utf8.{Cases, cases, one, two, three, four, utf8_low, utf8_some, utf8_high}
use Rattle.readers.specs.Sign.{Texted}
use Rattle.readers.specs.Value.{reference_of}
use Rattle.readers.proofs.Reference.{refers_said, refers_first, reads_refers}
use Rattle.readers.proofs.Signs.{reads_sectioned, reads_texted}
use Rattle.rows.specs.Text.{line_by, lines_from, lines, content, said_by, said_of, text_in}
use Rattle.tables.specs.Said.{written, Lines, over, pair, lone, kept, Says, text, section, reference, comment, instruction, TextSays}
use Rattle.tables.specs.Said as told

-- ---- by the first byte

first_low : (c a : ℕ) (w : List ℕ) → utf8 c ≡ a ∷ w → a < 0x80 → c ≡ a
first_low c a w e l = go (ltb c 0x80) refl
  where
    go : (x : Bool) → ltb c 0x80 ≡ x → c ≡ a
    go true q = let z = utf8_low c (ltb-true c 0x80 q) in cc
    go false q = absurd (let h = utf8_high c a w (ltb-false c 0x80 q) e in omega arith)

begins_other : (x : ℕ) (v : List ℕ) (c : ℕ) (s : List ℕ) → x < 0x80 → (c ≡ x → ⊥) → begins (x ∷ v) (utf8 c ++ s) ≡ false
begins_other x v c s l n =
    let (a, w, e) = utf8_some c in
    rw (e, ne_eqb a x (λ z. n (first_low c a w e (rw z l) ∙ z)))

-- ---- line ends

line_plain : (after : Bool) (b : ℕ) (t : List ℕ) → line_by after false false b t ≡ b ∷ t
unfolding line_by
line_plain true b t = refl
line_plain false b t = refl

line_fresh : (lf : Bool) (b : ℕ) (t : List ℕ) → line_by false false lf b t ≡ b ∷ t
unfolding line_by
line_fresh lf b t = refl

line_any : (x : Bool) (b : ℕ) (t : List ℕ) → line_by true x false b t ≡ line_by false x false b t
unfolding line_by
line_any true b t = refl
line_any false b t = refl

line_high : (b : ℕ) (s : List ℕ) → 0x80 ≤ b → lines_from false (b ∷ s) ≡ b ∷ lines_from false s
unfolding lines_from
line_high b s l = rw (ne_eqb b 0xD (λ e. omega arith), ne_eqb b 0xA (λ e. omega arith)) (line_plain false b (lines_from false s))

line_low : (c : ℕ) (s : List ℕ) → (c ≡ 0xD → ⊥) → lines_from false (c ∷ s) ≡ c ∷ lines_from false s
unfolding lines_from
line_low c s n = rw (ne_eqb c 0xD n) (line_fresh (eqb c 0xA) c (lines_from false s))

line_char : (c : ℕ) (s : List ℕ) → (c ≡ 0xD → ⊥) → lines_from false (utf8 c ++ s) ≡ utf8 c ++ lines_from false s
line_char c s n = go (cases c)
  where
    on : (b : ℕ) (r : List ℕ) {t : List ℕ} → 0x80 ≤ b → lines_from false r ≡ t → lines_from false (b ∷ r) ≡ b ∷ t
    on b r l e = line_high b r l ∙ ap (λ (x : List ℕ). b ∷ x) e

    go : Cases c → lines_from false (utf8 c ++ s) ≡ utf8 c ++ lines_from false s
    go (one h q) = rw q (line_low c s n)
    go (two l h q) = rw q (on _ _ (omega arith) (on _ _ (omega arith) refl))
    go (three l h q) = rw q (on _ _ (omega arith) (on _ _ (omega arith) (on _ _ (omega arith) refl)))
    go (four l q) = rw q (on _ _ (omega arith) (on _ _ (omega arith) (on _ _ (omega arith) (on _ _ (omega arith) refl))))

-- behind a CR, where no LF comes, the rest is as at the front
line_behind : (cs : List ℕ) → ((es : List ℕ) → cs ≡ 0xA ∷ es → ⊥) → lines_from true (written cs) ≡ lines_from false (written cs)
unfolding lines_from
line_behind [] n = refl
line_behind (c ∷ cs) n =
    let (a, w, e) = utf8_some c in
    let h : a ≡ 0xA → ⊥ = λ z. n cs (ap (λ (x : ℕ). x ∷ cs) (first_low c a w e (rw z (omega arith)) ∙ z)) in
    rw (e, ne_eqb a 0xA h) (line_any (eqb a 0xD) a _)

lines_said : {cs ds : List ℕ} → Lines cs ds → lines_from false (written cs) ≡ written ds
unfolding lines_from line_by utf8
lines_said over = refl
lines_said (pair {cs} x) = ap (λ (l : List ℕ). 0xA ∷ l) (lines_said x)
lines_said (lone {cs} n x) = ap (λ (l : List ℕ). 0xA ∷ l) (line_behind cs n ∙ lines_said x)
lines_said (kept {c} {cs} n x) = line_char c (written cs) n ∙ ap (λ (l : List ℕ). utf8 c ++ l) (lines_said x)

-- every line of characters has its line ends made
pub lines_of : (cs : List ℕ) → (ds : List ℕ) × Lines cs ds
lines_of [] = ([], over)
lines_of (c ∷ []) = go (eqb c 0xD) refl
  where
    go : (x : Bool) → eqb c 0xD ≡ x → (ds : List ℕ) × Lines (c ∷ []) ds
    go true q = rw (eqb-true c 0xD q) (0xA ∷ [], lone {cs = []} (λ es e. let z : 0 ≡ suc (length es) = ap length e in omega arith) over)
    go false q = (c ∷ [], kept (eqb-false c 0xD q) over)
lines_of (c ∷ x ∷ cs) = go (eqb c 0xD) (eqb x 0xA) refl refl (lines_of (x ∷ cs)) (lines_of cs)
  where
    go : (p q : Bool) → eqb c 0xD ≡ p → eqb x 0xA ≡ q → (ds : List ℕ) × Lines (x ∷ cs) ds → (ds : List ℕ) × Lines cs ds
        → (ds : List ℕ) × Lines (c ∷ x ∷ cs) ds
    go true true e f (ds, l) (es, m) = rw (eqb-true c 0xD e, eqb-true x 0xA f) (0xA ∷ es, pair m)
    go true false e f (ds, l) (es, m) =
        rw (eqb-true c 0xD e) (0xA ∷ ds, lone {cs = x ∷ cs} (λ es z. eqb-false x 0xA f (cc)) l)
    go false q e f (ds, l) (es, m) = (c ∷ ds, kept (eqb-false c 0xD e) l)

-- ---- an item

-- characters that stand for themselves are the bytes
signs_written : (w : Where) (cs : List ℕ) {s t : List ℕ} → Signs w (map literal cs) s t → s ≡ written cs ++ t
signs_written w [] sign.over = refl
signs_written w (c ∷ cs) {t = t} (next (itself k p f e) x) =
    e ∙ ap (λ (l : List ℕ). utf8 c ++ l) (signs_written w cs x) ∙ sym (append_assoc (utf8 c) (written cs) t)

-- in a section all do
section_literal : {xs : List Sign} {s t : List ℕ} → Signs in_section xs s t → (cs : List ℕ) × (xs ≡ map literal cs)
section_literal sign.over = ([], refl)
section_literal (next (itself {c = c} k p f e) x) =
    let (cs, q) = section_literal x in
    (c ∷ cs, ap (λ (l : List Sign). literal c ∷ l) q)
section_literal (next (said h r) x) = absurd (false≢true h)

not_among : (c x : ℕ) → except "<&" x ≡ false → except "<&" c ≡ true → c ≡ x → ⊥
not_among c x n p e = false≢true (sym n ∙ ap (except "<&") (sym e) ∙ p)

text_opens : (cs : List ℕ) (raw : List ℕ) → Signs in_text (map literal cs) raw []
    → (x : ℕ) (v : List ℕ) → x < 0x80 → except "<&" x ≡ false → begins (x ∷ v) raw ≡ false
text_opens [] raw sign.over x v l n = refl
text_opens (c ∷ cs) raw (next {m = m} (itself k p f e) y) x v l n =
    ap (begins (x ∷ v)) e ∙ begins_other x v c m l (not_among c x n p)

text_said : {cs ds raw : List ℕ} → Texted cs raw [] → Lines cs ds → said_of raw ≡ written ds
unfolding said_of lines except is_char
text_said {cs} {ds} {raw} x l =
    let e : raw ≡ written cs = signs_written in_text cs x.signs ∙ append-nil (written cs) in
    let no = text_opens cs raw x.signs in
    rw (no 0x3C (bytes "![CDATA[") (omega arith) refl, no 0x3C [] (omega arith) refl, no 0x26 [] (omega arith) refl)
    (ap (lines_from false) e ∙ lines_said l)

-- what stands between the marks of a section
content_is : (s : List ℕ) → content (bytes "<![CDATA[" ++ (s ++ bytes "]]>")) ≡ s
unfolding content
content_is s =
    let n : length (bytes "<![CDATA[" ++ (s ++ bytes "]]>")) - 12 ≡ length s = omega (arith, length-append s (bytes "]]>")) in
    rw n (take-append_seam s (bytes "]]>"))

section_marks : (y : List ℕ) → said_of (bytes "<![CDATA[" ++ y) ≡ lines (content (bytes "<![CDATA[" ++ y))
unfolding said_of
section_marks y = refl

section_said : {cs ds raw : List ℕ} → Sectioned (map literal cs) raw [] → Lines cs ds → said_of raw ≡ written ds
unfolding lines
section_said {cs} {ds} {raw} (sign.section e x z) l =
    let q : raw ≡ bytes "<![CDATA[" ++ (written cs ++ bytes "]]>")
    = e ∙ ap (λ (y : List ℕ). bytes "<![CDATA[" ++ y) (signs_written in_section cs x ∙ ap (λ (y : List ℕ). written cs ++ y) z) in
    ap said_of q ∙ section_marks (written cs ++ bytes "]]>") ∙ ap lines (content_is (written cs)) ∙ lines_said l

reference_said : {c : ℕ} {raw : List ℕ} → Refers c raw [] → said_of raw ≡ utf8 c
unfolding said_of
reference_said {c} {raw} r =
    let (m, e) = refers_first r in
    let q : said_by (reference_of raw) ≡ utf8 c = ap said_by (refers_said r) in
    ap said_of e ∙ ap (λ (y : List ℕ). said_by (reference_of y)) (sym e) ∙ q

pub said_only : {raw w : List ℕ} → Says raw w → said_of raw ≡ w
unfolding said_of
said_only (text x l) = text_said x l
said_only (section x l) = section_said x l
said_only (reference r) = reference_said r
said_only (comment {raw} (u, e, y)) = ap said_of e
said_only (instruction {raw} (u, e, y)) = ap said_of e

-- ---- the text of an element

alone : (r : Rule) {raw s m : List ℕ} → Item r raw s m → Reads r raw []
alone r {raw} {s} {m} i =
    let x : Reads r (raw ++ []) [] = reads_frame r raw m [] (rw i.raw_is at i.reads) in
    rw (append-nil raw) at x

data_says : {raw s m : List ℕ} → Item CharData raw s m → (w : List ℕ) × Says raw w
data_says i =
    let (cs, x) = reads_texted (record { reads = alone CharData i; stops = inl refl }) in
    let (ds, l) = lines_of cs in
    (written ds, text x l)

section_says : {raw s m : List ℕ} → Item CDSect raw s m → (w : List ℕ) × Says raw w
section_says {raw} i = go (reads_sectioned (alone CDSect i))
  where
    go : (xs : List Sign) × Sectioned xs raw [] → (w : List ℕ) × Says raw w
    go (xs, sign.section e x z) =
        let (cs, q) = section_literal x in
        let (ds, l) = lines_of cs in
        (written ds, section (sign.section e (rw q at x) z) l)

reference_says : {raw s m : List ℕ} → Item Reference raw s m → (w : List ℕ) × Says raw w
reference_says i = let (c, r) = reads_refers (alone Reference i) in (utf8 c, reference r)

item_more : {raw : List ℕ} {rest : Forest} → (v : List ℕ) × Says raw v → (w : List ℕ) × TextSays rest w
    → (w : List ℕ) × TextSays (other raw rest) w
item_more (v, x) (w, y) = (v ++ w, told.item x y)

pub content_says : {Fits : ℕ → Name → List Name → Type 0} {k : ℕ} {chars : Bool} {s t : List ℕ} {f : Forest}
    → Content Fits k chars s t f → (w : List ℕ) × TextSays f w
content_says doc.end = ([], told.over)
content_says (doc.data_next n i r) = item_more (data_says i) (content_says r)
content_says (doc.reference_next i r) = item_more (reference_says i) (content_says r)
content_says (doc.section_next i r) = item_more (section_says i) (content_says r)
content_says (doc.instruction_next i r) = item_more ([], instruction (alone PI i)) (content_says r)
content_says (doc.comment_next i r) = item_more ([], comment (alone Comment i)) (content_says r)
content_says (doc.empty_next o h r) = let (w, x) = content_says r in (w, told.element x)
content_says (doc.element_next o h i x r) = let (w, y) = content_says r in (w, told.element y)

pub text_only : {f : Forest} {w : List ℕ} → TextSays f w → text_in f ≡ w
text_only told.over = refl
text_only (told.item {v = v} x y) = rw (said_only x) (ap (λ (l : List ℕ). v ++ l) (text_only y))
text_only (told.element y) = text_only y
