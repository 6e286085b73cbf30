-- The pass of four. What is known between two tapes: of the reader; and of each client, which stands where the reader does, or sits out.
-- Then a law for each way on and each way out, for one client.
use mathlib.Core.Path.{◌≡◌, refl, sym, ap, ◌∙◌}
use mathlib.Core.Bool.{Bool, true, false}
use mathlib.Core.List.{List}
use Prim.Native.Nat.{ℕ, ◌-◌, ◌≤◌, ◌<◌}
use native.Mathlib.Omega.{arith}
use lib.ListN.{length, replicate, length-replicate}
use Rattle.std.specs.Prelude.{Ok, Err}
use Rattle.document.specs.Levels.{Names}
use Rattle.document.specs.Judge.{start_of}
use Rattle.document.specs.declared.Open.{Open}
use Rattle.document.specs.declared.Placement.TheVariants as placed
use Rattle.document.specs.declared.Why.{Why}
use Rattle.document.proofs.Judging.{judge_start}
use Rattle.passes.specs.Opens.{Opens}
use Rattle.passes.specs.declared.Measured.{Measured}
use Rattle.passes.proofs.Telling.{opens_none}
use Rattle.tape.specs.Taped.{Spot, spot_of, behind}
use Rattle.reel.specs.Reeling.{Reeling, Stopped, placed_at}
use Rattle.reel.specs.declared.Stop.{Stop}
use Rattle.reel.specs.declared.Stop.TheVariants as stop
use Rattle.seats.specs.Seated.{Seated, seat_spot}
use Rattle.seats.specs.Went.{Lies, Sits, Through}
use Rattle.seats.specs.declared.seat.Seat.{Seat}
use Rattle.seats.proofs.Seating.{seated_start, seated_over, seated_fault}
use Rattle.together.specs.Joined.{Joins, PassedFor}

-- ---- the reader

pub record Reading (d starts lens tape : List ℕ) (opened : Open) (at : ℕ) : Type 0 where
  pub names : Names d starts lens opened
  pub opens : Opens d starts lens opened.level.0
  pub within : at ≤ length d
  pub long : length tape ≡ 20480

pub read_start : (d : List ℕ) {opened : Open} {at : ℕ} → opened ≡ record { level = record { 0 = 0 }; rooted = false } → at ≡ start_of d
    → Reading d (replicate 64 0) (replicate 64 0) (replicate 20480 0) opened at
read_start d e q =
    let v = judge_start d e q in
    record {
      names = v.names;
      opens = rw e (opens_none d (replicate 64 0) (replicate 64 0));
      within = v.within;
      long = length-replicate {A = ℕ} 20480 0;
    }

module _ {d : List ℕ} {s : Spot} {starts lens tape : List ℕ} {opened : Open} {at : ℕ} {first : Bool} {items tags : ℕ}
    (v : Reeling d s starts lens tape opened at first items tags) where
  pub read_on : Reading d starts lens tape opened at
  read_on = record { names = v.names; opens = v.opens; within = v.within; long = v.long }

  -- what is on the tape
  abbrev pub read_lies : Lies d tape s tags at first
  read_lies =
      record {
        items = items;
        taped = v.taped;
        to_is = sym (ap (λ (x : Spot). x.at) v.spot);
        first_is = sym (ap (λ (x : Spot). x.first) v.spot);
      }

  -- a full tape has tags
  pub read_less : {x : Stop} → Stopped d s items tags x → x ≡ stop.Full → length d - at < length d - s.at
  read_less h q =
      let z : tags ≡ 4096 = rw q at h in
      omega (arith, z, v.fewer, v.ahead, v.within)

-- the same from an equal spot
abbrev lies_at : {d t : List ℕ} {s s' : Spot} {tags to : ℕ} {first : Bool} → s' ≡ s → Lies d t s tags to first → Lies d t s' tags to first
lies_at {d} e y =
    record {
      items = y.items;
      taped = rw e y.taped;
      to_is = ap (λ (x : Spot). (behind d x y.items).at) e ∙ y.to_is;
      first_is = ap (λ (x : Spot). (behind d x y.items).first) e ∙ y.first_is;
    }

-- ---- a client

-- o₀ and g₀ are its buffer and its log at the beginning
pub record Going (live counts : Bool) (list d o₀ g₀ starts lens : List ℕ) (s : Seat) (o g : List ℕ) (here : Spot) : Type 0 where
  pub seated : live ≡ true → Seated counts list d o₀ starts lens s o g
  pub spot : live ≡ true → seat_spot d starts lens s ≡ here
  pub stays : live ≡ false → (o ≡ o₀) × (g ≡ g₀)
  pub same : length o ≡ length o₀
  pub room : length g ≡ length g₀

pub go_start : (live counts : Bool) (list d o g : List ℕ) {s : Seat} {opened : Open} {at : ℕ}
    → opened ≡ record { level = record { 0 = 0 }; rooted = false } → at ≡ start_of d
    → s
    ≡ record {
      run = record { reached = record { 0 = 0 }; kept = 0; len = 0; count = 0; noted = 0 };
      opened = record { level = record { 0 = 0 }; rooted = false };
      at = at;
      first = true;
      tests = 0;
    }
    → Going live counts list d o g (replicate 64 0) (replicate 64 0) s o g (spot_of d (replicate 64 0) (replicate 64 0) opened at true)
go_start live counts list d o g p q e =
    record {
      seated = λ z. seated_start counts list d o g e q;
      spot = λ z. rw (e, p) refl;
      stays = λ z. (refl, refl);
      same = refl;
      room = refl;
    }

module _ {live counts : Bool} {list d o₀ g₀ starts lens : List ℕ} {s : Seat} {o g : List ℕ} {here : Spot}
    (v : Going live counts list d o₀ g₀ starts lens s o g here) where
  module _ {tb : List ℕ} (j : Joins live list tb g₀) where
    pub go_small : length g ≤ 16777216
    go_small = omega (arith, v.room, j.small)

    pub go_sits : {t : List ℕ} {tags to : ℕ} {first : Bool} → Lies d t here tags to first
        → Sits live counts list tb d t starts lens s o g tags to first
    go_sits y =
        record {
          serves = j.serves;
          begun = λ z. (o₀, v.seated z);
          lies = λ z. lies_at (v.spot z) y;
        }

  -- through a tape
  pub go_on : {t : List ℕ} {tags to : ℕ} {first : Bool} {starts' lens' : List ℕ} {r : Seat} {o' g' : List ℕ}
      → Through live counts list d t starts lens s o g tags to first starts' lens' r o' g' → (y : Lies d t here tags to first)
      → {there : Spot} → there ≡ behind d here y.items → Going live counts list d o₀ g₀ starts' lens' r o' g' there
  go_on {t} {tags} {to} {first} {starts'} {lens'} {r} {o'} {g'} h y e =
      record {
        seated = λ z. (h.went z (lies_at (v.spot z) y)).seated o₀ (v.seated z);
        spot = λ z.
            (h.went z (lies_at (v.spot z) y)).spot ∙ ap (λ (x : Spot). behind d x y.items) (v.spot z) ∙ sym e;
        stays = λ z. ((h.stays z).3 ∙ (v.stays z).0, (h.stays z).4 ∙ (v.stays z).1);
        same = (long live refl).0 ∙ v.same;
        room = (long live refl).1 ∙ v.room;
      }
    where
      long : (b : Bool) → live ≡ b → (length o' ≡ length o) × (length g' ≡ length g)
      long true z =
          let w = h.went z (lies_at (v.spot z) y) in
          (w.room, w.log_room)
      long false z = (ap length (h.stays z).3, ap length (h.stays z).4)

  -- the document is over
  pub go_over : placed_at d here ≡ placed.Over → {m : Measured}
      → m ≡ record { length = s.run.len; selected = s.run.count; tests = s.tests; noted = s.run.noted }
      → PassedFor live counts list d o₀ g₀ (Ok m) o g
  go_over h e =
      record {
        passed = λ z. rw e (seated_over (v.seated z) refl refl (ap (placed_at d) (v.spot z) ∙ h));
        stays = v.stays;
      }

  -- the next item is at fault
  pub go_fault : (why : Why) → placed_at d here ≡ placed.Fault why → {at : ℕ} → at ≡ here.at
      → PassedFor live counts list d o₀ g₀ (Err (record { why = why; at = at })) o g
  go_fault why h {at} e =
      record {
        passed = λ z.
            let w : at ≡ s.at = e ∙ sym (ap (λ (x : Spot). x.at) (v.spot z)) in
            rw w (seated_fault (v.seated z) refl refl why (ap (placed_at d) (v.spot z) ∙ h));
        stays = v.stays;
      }

-- ---- a client behind a tape that was read

module _ {d : List ℕ} {here : Spot} {starts lens tape : List ℕ} {opened : Open} {at : ℕ} {first : Bool} {items tags : ℕ}
    (l : Reeling d here starts lens tape opened at first items tags)
    {live counts : Bool} {list o₀ g₀ starts₁ lens₁ : List ℕ} {s : Seat} {o g : List ℕ}
    (v : Going live counts list d o₀ g₀ starts₁ lens₁ s o g here)
    {starts₂ lens₂ : List ℕ} {r : Seat} {o' g' : List ℕ}
    (h : Through live counts list d tape starts₁ lens₁ s o g tags at first starts₂ lens₂ r o' g') where
  pub next_going : Going live counts list d o₀ g₀ starts₂ lens₂ r o' g' (spot_of d starts lens opened at first)
  next_going = go_on v h (read_lies l) l.spot

  pub next_over : {x : Stop} → Stopped d here items tags x → x ≡ stop.Over → {m : Measured}
      → m ≡ record { length = r.run.len; selected = r.run.count; tests = r.tests; noted = r.run.noted }
      → PassedFor live counts list d o₀ g₀ (Ok m) o' g'
  next_over p q e =
      let w : Stopped d here items tags stop.Over = rw q at p in
      go_over next_going (ap (placed_at d) l.spot ∙ w.1) e

  pub next_fault : {x : Stop} → Stopped d here items tags x → (why : Why) → x ≡ stop.Fault why
      → PassedFor live counts list d o₀ g₀ (Err (record { why = why; at = at })) o' g'
  next_fault p why q =
      let w : Stopped d here items tags (stop.Fault why) = rw q at p in
      go_fault next_going why (ap (placed_at d) l.spot ∙ w.1) refl
