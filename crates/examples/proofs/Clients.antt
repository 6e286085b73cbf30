-- Worked examples of four clients: a document, what each client hands over, and beside it what the client gets back by document 02, Q-14,
-- its numbers and its whole buffer, from a buffer of dots. antt computes what a call made for it alone gives, which is what a call for all
-- four gives it (`four_alone`, crate `four`).
use mathlib.Core.Path.{◌≡◌, refl}
use mathlib.Core.List.{List, [], ◌∷◌, ◌++◌, map}
use Prim.Native.Nat.{ℕ}
use Prim.Native.String.{String}
use lib.Count.{ones, ones_in}
use lib.ListN.{length, drop, replicate}
use Rattle.xml.specs.Utf8.{utf8, is_scalar}
use Rattle.xml.specs.Notation.{bytes}
use Rattle.xml.specs.Productions.{is_char, except, is_space, is_name_start, is_name_more, is_name}
use Rattle.xml.specs.Character.{value_of as number, guess, character, starts, run}
use Rattle.utf8.specs.Place.{ends_at}
use Rattle.chars.specs.Name.{name_of}
use Rattle.chars.specs.Space.{space_end}
use Rattle.chars.specs.Check.{check_of}
use Rattle.paths.specs.Path.{is_value, print_step, print_line}
use Rattle.paths.specs.Reader.{read_all, kind_at, test_at, step_at, steps, attribute_at, mark_at, end_at, line_at}
use Rattle.paths.specs.Judge.{within, sound_at, lines, judge, list_answer, list_paths}
use Rattle.lookup.specs.Index.{padded}
use Rattle.compiled.specs.Bits.{column, stays_of, goes_of, far_of, fit_of}
use Rattle.matcher.specs.Fit.{fit_for}
use Rattle.matcher.specs.State.{flood, hits_of, carried, carried_at, fresh_state, deeper_of, state_of, tried_of, tests_at, tests_by}
use Rattle.matcher.specs.Says.{verdict_of}
use Rattle.readers.specs.Read.{expect, seek, skip, space_of, many}
use Rattle.readers.specs.Plain.{is_mark, text_of}
use Rattle.readers.specs.Value.{char_ref_of, entity_ref_of, reference_of, piece_of, quoted_of, value_of}
use Rattle.readers.specs.Named.{before, eq_of, piece_named, attribute_of, gather, tag_of, end_tag_of, small_tag, other_encoding}
use Rattle.tags.specs.Tag.{tag_at, end_tag_at}
use Rattle.items.specs.Item.{declares, kind_of, item_at}
use Rattle.document.specs.Place.{blank}
use Rattle.document.specs.Judge.{start_of, scan_from, scanned, judge_of}
use Rattle.trees.specs.Grown.{tokens_from, tokens_of, forest_of}
use Rattle.trees.specs.Written.{verdicts, cut_of, count_of, name_tests, tests_of}
use Rattle.cutter.specs.Answer.{answer_of, bytes_after}
use Rattle.four.specs.Seats.{Client, client_of, Gets, alone_of}

-- a client, and what it gets
pub record Row : Type 0 where
  pub client : Client
  pub gets : Gets

pub record Case : Type 0 where
  pub doc : List ℕ
  pub seats : List Row

abbrev dots : ℕ → List ℕ
dots n = replicate n 46

-- written into a buffer of 24 bytes: the cut, the elements selected, the name tests tried
infix 10 ◌gets◌and◌by◌
abbrev ◌gets◌and◌by◌ : String → String → ℕ → ℕ → Row
l gets w and n by t =
    record {
      client = client_of (bytes l) (dots 24);
      gets =
          record { number = 0; place = length (bytes w); selected = n; tests = t; bytes = bytes w ++ drop (length (bytes w)) (dots 24) };
    }

infix 10 ◌within◌refused◌at◌
abbrev ◌within◌refused◌at◌ : String → ℕ → ℕ → ℕ → Row
l within room refused n at k =
    record {
      client = client_of (bytes l) (dots room);
      gets = record { number = n; place = k; selected = 0; tests = 0; bytes = dots room };
    }

infix 9 ◌for◌
abbrev ◌for◌ : String → List Row → Case
d for rs = record { doc = bytes d; seats = rs }

pub cases : List Case
cases =
    -- four that are served: bare, whole, nothing selected, and an unused seat
    ("<g><p><v/></p></g>"
    for ("//v\n" gets "<g><p><v></v></p></g>" and 1 by 3)
    ∷ ("//p #\n" gets "<g><p><v/></p></g>" and 1 by 3)
    ∷ ("/v\n" gets "<g></g>" and 0 by 1)
    ∷ ("" gets "<g></g>" and 0 by 0)
    ∷ [])
    -- "a fault in a list its owner only"; too little room too, also in an unused seat
    ∷ ("<g><p><v/></p></g>"
    for ("v\n" within 24 refused 2 at 1)
    ∷ ("//v\n" gets "<g><p><v></v></p></g>" and 1 by 3)
    ∷ ("//v\n" within 20 refused 9 at 21)
    ∷ ("" within 0 refused 9 at 7)
    ∷ [])
    -- "A fault in the document reaches each client whose list is sound"
    ∷ ("<g><v></g>"
    for ("//v\n" within 24 refused 7 at 6)
    ∷ ("//v\n/v#\n" within 24 refused 2 at 2)
    ∷ ("//v\n" within 0 refused 7 at 6)
    ∷ ("" within 24 refused 7 at 6)
    ∷ [])
    ∷ []

pub clients_computed :
    map (λ c. map (λ r. alone_of c.doc r.client) c.seats) cases ≡ map (λ c. map (λ r. r.gets) c.seats) cases
unfolding cases alone_of answer_of bytes_after judge_of other_encoding scanned scan_from start_of blank check_of space_end cut_of count_of
    verdicts verdict_of tests_of name_tests tests_by tests_at tried_of hits_of flood carried carried_at fresh_state deeper_of state_of
    fit_for column padded stays_of goes_of far_of fit_of ones ones_in forest_of tokens_of tokens_from item_at kind_of declares ends_at
    tag_at end_tag_at tag_of end_tag_of piece_named before gather attribute_of small_tag text_of eq_of space_of skip value_of quoted_of many
    piece_of is_mark reference_of entity_ref_of char_ref_of is_char name_of expect seek starts run character guess number utf8 is_scalar
    is_space is_name is_name_start is_name_more list_paths list_answer judge lines sound_at within line_at steps read_all end_at mark_at
    attribute_at step_at test_at kind_at print_step print_line is_value except
clients_computed = refl
