-- `passing_from` meets its contract: proofs/EachPath.antt has the laws.
use Rattle.std.proofs.Common.{◌≡◌, ◌%◌, arith}
use borrow.Author.Rules.{rules}
use Rattle.tests.proofs.EachPath.{passing}
use Rattle.tests.proofs.+passing_from.Goals as goal

pub returns-then-selecting-eq0 : goal.returns-then-selecting-eq0
returns-then-selecting-eq0 t c = search (passing, rules)

pub passing_from-rest-requires : goal.passing_from-rest-requires
passing_from-rest-requires t c = search (passing, rules)

pub overflow_mul-rest : goal.overflow_mul-rest
overflow_mul-rest t c = search (passing, rules)

pub returns-then-selecting-eq0-2 : goal.returns-then-selecting-eq0-2
returns-then-selecting-eq0-2 t c =
    let unset : c.args.selecting % 2 ≡ 0 = omega arith in
    search (passing, rules)

pub overflow_add-result : goal.overflow_add-result
overflow_add-result t c = search (passing, rules)

pub returns-then-passes : goal.returns-then-passes
returns-then-passes t c = search (passing, rules)

pub returns : goal.returns
returns t c = search (passing, rules)
