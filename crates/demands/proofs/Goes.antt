-- `Goes d at s ts`: from the place at on, with s open, the scan finds no fault, and the tokens are ts. In order: one item more, and the
-- end; then one lemma for each production that an item is read by: it is the item at its place, it may stand there, and the scan goes on.
use mathlib.Core.Path.{◌≡◌, refl, sym, ap, ◌∙◌}
use mathlib.Core.Bool.{Bool, true, false, cond, not, ◌&&◌, ◌||◌, false≢true}
use mathlib.Core.List.{List, [], ◌∷◌, ◌++◌, append_assoc}
use Prim.Native.Nat.{ℕ, zero, suc, ◌+◌, ◌≤◌, ◌<◌}
use native.Mathlib.Omega.{arith}
use borrow.Author.Tests.{leb-true, le-leb}
use lib.Dec.{leb}
use lib.ListN.{length, drop, length-append}
use Rattle.std.specs.Prelude.{Ok}
use Rattle.xml.specs.Notation.{Rule, Reads, Star, done, more, char, bytes}
use Rattle.xml.specs.Productions.{PI, Comment as CommentRule, CDSect, Reference as ReferenceRule, CharData, S, except, same}
use Rattle.xml.specs.Sign.{Refers}
use Rattle.xml.specs.Forest.{Name, Tag}
use Rattle.xml.specs.Document.{Opens, Closes, Item as ItemOf, Some as NonEmpty, Small}
use Rattle.xml.proofs.Bools.{or_left, or_right}
use Rattle.xml.proofs.Same.{same_refl}
use Rattle.utf8.specs.Place.{ends_at, Stands}
use Rattle.chars.specs.Space.{space_end}
use Rattle.chars.specs.Meaning.{SpaceSays}
use Rattle.std.specs.Prelude.{Some}
use Rattle.chars.proofs.Meaning.{space_only}
use Rattle.xml.proofs.Run.{starts_not}
use Rattle.readers.specs.Meaning.{Chars, TextIs, tag_end}
use Rattle.readers.specs.Says.{ReadingSays, TextSays}
use Rattle.readers.proofs.Left.{end_stands, end_ahead}
use Rattle.readers.proofs.Reference.{reads_refers, refers_first}
use Rattle.references.specs.Meaning.{ReferenceSays}
use Rattle.tags.specs.Kept.{name_from}
use Rattle.tags.specs.declared.Item.{Item}
use Rattle.tags.specs.declared.Item.TheVariants.{Declaration, Instruction, Comment, Section, Reference, Text, Start, Finish}
use Rattle.tags.specs.declared.Item.TheVariants.{Doctype, Malformed, TooLarge, Nothing}
use Rattle.items.specs.Item.{kind_of, item_at}
use Rattle.items.specs.Item as kinds
use Rattle.items.specs.Inside.{Inside}
use Rattle.items.specs.Meaning.{KindSays, StartIs, FinishIs}
use Rattle.items.proofs.Insides.{item_inside}
use Rattle.items.proofs.Meaning.{item_only}
use Rattle.items.proofs.Telling.{kind_nothing}
use Rattle.document.specs.Place.{Opened, some, formed, blank, closes, opens, start_placement, placement, after_item, end_of}
use Rattle.document.specs.Judge.{scan_from}
use Rattle.document.specs.declared.Placement.TheVariants.{Fine, Fault}
use Rattle.document.specs.declared.Why.{Why}
use Rattle.document.specs.declared.Why.TheVariants as why
use Rattle.trees.specs.Grown.{Token, finish, aside, part, tag_of, started, item_tokens, tokens_from}
use Rattle.trees.proofs.Passes.{over_fine}
use Rattle.demands.proofs.Parts.{Stops, part_is, drop_past, stops_space}
use Rattle.demands.proofs.Tagged.{name_past}
use Rattle.demands.proofs.Begins.{comment_kind, instruction_kind, section_kind, finish_kind, reference_kind}
use Rattle.demands.proofs.Begins.{start_kind, plain_kind, space_first, space_is_text}

pub record Goes (d : List ℕ) (at : ℕ) (s : Opened) (ts : List Token) : Type 0 where
  pub scans : (k : ℕ) → length d < k + at → (scan_from k d at false s ≡ Ok tt) × (tokens_from k d at false ≡ ts)

-- ---- one item more

fault_fine : {A : Type 0} (why : Why) → Fault why ≡ Fine → A
fault_fine why e = absurd (false≢true cc)

ahead : (d : List ℕ) (at : ℕ) (i : Item) (s : Opened) → Inside d at i → placement d at i s ≡ Fine
    → (at < end_of at i) × (end_of at i ≤ length d)
ahead d at (Declaration e) s h q = h
ahead d at (Instruction e) s h q = h
ahead d at (Comment e) s h q = h
ahead d at (Section e) s h q = h
ahead d at (Reference n e) s h q = h
ahead d at (Text e) s h q = h
ahead d at (Start n k e m t) s (a, b, c) q = (omega arith, c)
ahead d at (Finish n e) s (a, c) q = (omega arith, c)
ahead d at Doctype s h q = fault_fine _ q
ahead d at Malformed s h q = fault_fine _ q
ahead d at TooLarge s h q = fault_fine _ q
ahead d at Nothing s h q = over_fine s q

inside_is : (d : List ℕ) (at : ℕ) (i : Item) → i ≡ item_at false d at → Inside d at i
inside_is d at i q = rw q (item_inside false d at)

pub goes_on : (d : List ℕ) (at : ℕ) (i : Item) (s : Opened) (ts : List Token) → i ≡ item_at false d at → placement d at i s ≡ Fine
    → Goes d (end_of at i) (after_item d at i s) ts → Goes d at s (item_tokens d at i ts)
unfolding scan_from tokens_from
goes_on d at i s ts q p g = record { scans = go }
  where
    z : (at < end_of at i) × (end_of at i ≤ length d)
    z = ahead d at i s (inside_is d at i q) p

    go : (k : ℕ) → length d < k + at → (scan_from k d at false s ≡ Ok tt) × (tokens_from k d at false ≡ item_tokens d at i ts)
    go zero l = absurd (let (a, b) = z in omega arith)
    go (suc k) l =
        let (x, y) = g.scans k (let (a, b) = z in omega arith) in
        rw (← q, p, y) (x, refl)

-- ---- the end

pub over_item : (d : List ℕ) (at : ℕ) → drop at d ≡ [] → item_at false d at ≡ Nothing
unfolding item_at
over_item d at e = ap (λ (k : kinds.Kind). kinds.item_of k d at) (ap (kind_of false) e ∙ kind_nothing false)

pub goes_over : (d : List ℕ) (at : ℕ) → Stands d at [] → Goes d at (record { names = []; rooted = true }) []
unfolding scan_from tokens_from
goes_over d at p = record { scans = go }
  where
    go : (k : ℕ) → length d < k + at
        → (scan_from k d at false (record { names = []; rooted = true }) ≡ Ok tt) × (tokens_from k d at false ≡ [])
    go zero l = absurd (let h : at ≤ length d = p.inside in omega arith)
    go (suc k) l = rw (over_item d at p.rest) (refl, refl)

-- ---- what is read at a place

pub record Read (d : List ℕ) (at : ℕ) (raw t : List ℕ) : Type 0 where
  pub to : ℕ
  pub ahead : at ≤ to
  pub stands : Stands d to t
  pub raw_is : part d at to ≡ raw

module _ (d : List ℕ) {at : ℕ} {s : List ℕ} (p : Stands d at s) where
  pub read_at : (raw t : List ℕ) → s ≡ raw ++ t → Read d at raw t
  read_at raw t e =
      let x = end_stands d at p.inside (raw, p.rest ∙ e) in
      let l = end_ahead d at t in
      record { to = ends_at d at t; ahead = l; stands = x; raw_is = part_is d raw t at _ (p.rest ∙ e) x l }

  pub says_at : (r : Rule) {raw t : List ℕ} → Reads r s t → (x : Read d at raw t) → ReadingSays r d at (Some x.to)
  says_at r y x = (rw (p.rest, x.stands.rest) y, x.ahead, x.stands.inside)

  refers_at : (n : ℕ) {raw t : List ℕ} → Refers n s t → (x : Read d at raw t) → ReferenceSays d at (Some (n, x.to))
  refers_at n y x = (rw (p.rest, x.stands.rest) y, x.ahead, x.stands.inside)

  text_at : {raw t : List ℕ} → TextIs s t → (x : Read d at raw t) → TextSays d at (Some x.to)
  text_at y x = (rw (p.rest, x.stands.rest) y, x.ahead, x.stands.inside)

  here : (c : Chars s) (i : Item) {k : kinds.Kind} → kind_of false s ≡ k → KindSays k d at i → i ≡ item_at false d at
  here c i q h =
      let z : kind_of false (drop at d) ≡ _ = ap (kind_of false) p.rest ∙ q in
      item_only false d at (rw p.rest c) i (rw z h)

-- ---- each production

module _ (d : List ℕ) {at : ℕ} {s : List ℕ} (p : Stands d at s) (c : Chars s) (o : Opened) where
  pub instruction_goes : {raw m : List ℕ} {ts : List Token} → ItemOf PI raw s m → ((e : ℕ) → Stands d e m → Goes d e o ts)
      → Goes d at o (aside raw ∷ ts)
  instruction_goes {raw} {m} {ts} i next =
      let x = read_at d p raw m i.raw_is in
      let (u, e, y) = i.reads in
      let q = here d p c (Instruction x.to) (ap (kind_of false) e ∙ instruction_kind u) (refl, says_at d p PI i.reads x) in
      rw (← x.raw_is) (goes_on d at (Instruction x.to) o ts q refl (next x.to x.stands))

  pub comment_goes : {raw m : List ℕ} {ts : List Token} → ItemOf CommentRule raw s m → ((e : ℕ) → Stands d e m → Goes d e o ts)
      → Goes d at o (aside raw ∷ ts)
  comment_goes {raw} {m} {ts} i next =
      let x = read_at d p raw m i.raw_is in
      let (u, e, y) = i.reads in
      let q = here d p c (Comment x.to) (ap (kind_of false) e ∙ comment_kind u) (refl, says_at d p CommentRule i.reads x) in
      rw (← x.raw_is) (goes_on d at (Comment x.to) o ts q refl (next x.to x.stands))

  pub section_goes : {raw m : List ℕ} {ts : List Token} → ItemOf CDSect raw s m → some o.names ≡ true
      → ((e : ℕ) → Stands d e m → Goes d e o ts) → Goes d at o (aside raw ∷ ts)
  section_goes {raw} {m} {ts} i w next =
      let x = read_at d p raw m i.raw_is in
      let (u, e, y) = i.reads in
      let q = here d p c (Section x.to) (ap (kind_of false) e ∙ section_kind u) (refl, says_at d p CDSect i.reads x) in
      rw (← x.raw_is) (goes_on d at (Section x.to) o ts q (ap formed w) (next x.to x.stands))

  pub reference_goes : {raw m : List ℕ} {ts : List Token} → ItemOf ReferenceRule raw s m → some o.names ≡ true
      → ((e : ℕ) → Stands d e m → Goes d e o ts) → Goes d at o (aside raw ∷ ts)
  reference_goes {raw} {m} {ts} i w next =
      let x = read_at d p raw m i.raw_is in
      let (n, r) = reads_refers i.reads in
      let (u, e) = refers_first r in
      let q = here d p c (Reference n x.to) (ap (kind_of false) e ∙ reference_kind u) (refl, refers_at d p n r x) in
      rw (← x.raw_is) (goes_on d at (Reference n x.to) o ts q (ap formed w) (next x.to x.stands))

  -- text, by its first character
  text_goes : {raw m : List ℕ} {ts : List Token} (n : List ℕ) → Reads (char (except "<&")) s n → TextIs s m → (x : Read d at raw m)
      → some o.names || blank d at x.to ≡ true → ((e : ℕ) → Stands d e m → Goes d e o ts) → Goes d at o (aside raw ∷ ts)
  text_goes {raw} {m} {ts} n y i x w next =
      let q = here d p c (Text x.to) (plain_kind s n y) (refl, text_at d p i x) in
      rw (← x.raw_is) (goes_on d at (Text x.to) o ts q (ap formed w) (next x.to x.stands))

  pub data_goes : {raw m : List ℕ} {ts : List Token} → NonEmpty raw → ItemOf CharData raw s m → Stops m → some o.names ≡ true
      → ((e : ℕ) → Stands d e m → Goes d e o ts) → Goes d at o (aside raw ∷ ts)
  data_goes {raw} {m} {ts} n i z w next = go i.reads.0 i.raw_is refl refl
    where
      nonempty : (raw s : List ℕ) → NonEmpty raw → s ≡ raw ++ s → ⊥
      nonempty [] s n e = n
      nonempty (b ∷ raw) s n e =
          let y : length s ≡ suc (length (raw ++ s)) = ap length e in omega (arith, length-append raw s)

      go : {s' m' : List ℕ} → Star (Reads (char (except "<&"))) s' m' → s' ≡ raw ++ m' → s' ≡ s → m' ≡ m → Goes d at o (aside raw ∷ ts)
      go done e a b = absurd (nonempty raw _ n e)
      go (more {m = u} r rs) e a b =
          let x = read_at d p raw m i.raw_is in
          text_goes u (rw a at r) (record { reads = i.reads; stops = z }) x (or_left (some o.names) _ w) next

  pub space_goes : {raw m : List ℕ} {ts : List Token} → ItemOf S raw s m → Stops m → ((e : ℕ) → Stands d e m → Goes d e o ts)
      → Goes d at o (aside raw ∷ ts)
  unfolding blank
  space_goes {raw} {m} {ts} i z next =
      let x = read_at d p raw m i.raw_is in
      let (u, r, rs) = i.reads in
      text_goes u (space_first s u r) (space_is_text c i.reads z) x (or_right (some o.names) _ (blanks x)) next
    where
      blanks : (x : Read d at raw m) → blank d at x.to ≡ true
      blanks x =
          let (u, r, rs) = i.reads in
          let y : SpaceSays d at x.to
          = record {
            reads = rw (p.rest, x.stands.rest) (more r rs);
            no_more = rw x.stands.rest (λ t k. starts_not _ m (stops_space m z) t k);
            inside = λ l. x.stands.inside;
            past = λ l. (let a = x.ahead in let b : x.to ≤ length d = x.stands.inside in omega arith);
          } in
          let e : x.to ≡ space_end d at = space_only d at x.to y in
          le-leb x.to (space_end d at) (omega arith)

-- ---- tags

start_placed_lem : (o : Opened) → length o.names < 64 → o.rooted && not (some o.names) ≡ false → start_placement false o ≡ Fine
start_placed_lem o l z = go (leb 64 (length o.names)) refl (o.rooted && not (some o.names)) z
  where
    go : (b : Bool) → leb 64 (length o.names) ≡ b → (c : Bool) → c ≡ false
        → cond b (Fault why.TooLarge) (formed (not (false || c))) ≡ Fine
    go true q c e = absurd (let k = leb-true 64 (length o.names) q in omega arith)
    go false q true e = absurd (false≢true (sym e))
    go false q false e = refl

module _ (d : List ℕ) {at : ℕ} {s : List ℕ} (p : Stands d at s) (c : Chars s) where
  pub start_goes : (o : Opened) (m : Bool) {v : Tag} {ns : List Name} {t : List ℕ} {ts : List Token} → Opens (tag_end m) v ns s t
      → Small (suc (length o.names)) v.name ns → o.rooted && not (some o.names) ≡ false
      → ((e : ℕ) → Stands d e t → Goes d e (record { names = opens m v.name o.names; rooted = true }) ts)
      → Goes d at o (started m v ts)
  start_goes o m {v} {ns} {t} {ts} x (deep, short, few, all) w next =
      let all_is : s ≡ (v.head ++ v.tail) ++ t
      = x.head_is ∙ ap (λ (l : List ℕ). v.head ++ l) x.tail_is ∙ sym (append_assoc v.head v.tail t) in
      let y = read_at d p (v.head ++ v.tail) t all_is in
      let n = length v.name in
      let h = at + length v.head in
      let lst : drop h d ≡ x.last = drop_past d v.head x.last at (p.rest ∙ x.head_is) in
      let g : StartIs d at n h y.to m false
      = record {
        tag = record { name = v.name; attributes = ns; head = v.head; empty = m; rest = t };
        stands =
            rw p.rest
            (record {
              from = x.from;
              to = x.to;
              after = x.after;
              last = x.last;
              opens = x.opens;
              named = x.named;
              name_is = x.name_is;
              attributes = x.listed;
              blank = x.blank;
              head_is = x.head_is;
              closes = x.closes;
            });
        small = record { name = short; few = few; attributes = all };
        name_is = refl;
        head_is = refl;
        ends = y.stands;
        empty_is = refl;
        twice_is = x.unique;
      } in
      let q = here d p c (Start n h y.to m false) (ap (kind_of false) x.opens ∙ start_kind x.from x.to x.named) (refl, g) in
      let (i, j, k) = inside_is d at (Start n h y.to m false) q in
      let nm : name_from d (at + 1) n ≡ v.name
      = name_past d at (bytes "<") x.from v.name x.to (p.rest ∙ x.opens) x.name_is refl in
      let hd : part d at h ≡ v.head
      = part_is d v.head x.last at h (p.rest ∙ x.head_is) (record { rest = lst; inside = omega arith }) (omega arith) in
      let tl : part d h y.to ≡ v.tail = part_is d v.tail t h y.to (lst ∙ x.tail_is) y.stands (omega arith) in
      let tg : tag_of d at n h y.to ≡ v = rw (nm, hd, tl) refl in
      rw (← tg)
      (goes_on d at (Start n h y.to m false) o ts q (start_placed_lem o (omega arith) w) (rw nm (next y.to y.stands)))

  pub finish_goes : {n : Name} (ns : List Name) (r : Bool) {raw t : List ℕ} {ts : List Token} → Closes n raw s t → length n ≤ 255
      → ((e : ℕ) → Stands d e t → Goes d e (record { names = ns; rooted = r }) ts)
      → Goes d at (record { names = n ∷ ns; rooted = r }) (finish raw ∷ ts)
  finish_goes {n} ns r {raw} {t} {ts} x short next =
      let y = read_at d p raw t x.raw_is in
      let g : FinishIs d at (length n) y.to
      = record {
        tag = record { name = n; rest = t };
        stands =
            rw p.rest
            (record {
              from = x.from;
              to = x.to;
              last = x.last;
              opens = x.opens;
              named = x.named;
              name_is = x.name_is;
              blank = x.blank;
              closes = x.closes;
            });
        small = short;
        name_is = refl;
        ends = y.stands;
      } in
      let q = here d p c (Finish (length n) y.to) (ap (kind_of false) x.opens ∙ finish_kind x.from) (refl, g) in
      let nm : name_from d (at + 2) (length n) ≡ n
      = name_past d at (bytes "</") x.from n x.to (p.rest ∙ x.opens) x.name_is refl in
      let z : same (name_from d (at + 2) (length n)) n ≡ true = ap (λ (l : List ℕ). same l n) nm ∙ same_refl n in
      rw (← y.raw_is)
      (goes_on d at (Finish (length n) y.to) (record { names = n ∷ ns; rooted = r }) ts q (ap formed z) (next y.to y.stands))
