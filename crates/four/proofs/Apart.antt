-- A client gets what a call made for it alone gives, and nothing of the other three is seen in it: over the contracts that the toolchain
-- makes of the source.
use mathlib.Core.Path.{sym, ap₂, ◌∙◌}
use Rattle.four.specs.Seats.{client_of, gets_by, alone_of, first, second, third, fourth, seated, AsAlone, Apart}
use Rattle.four.proofs.four.Reads as four
use Rattle.four.proofs.four_with.Reads as four_with

-- `four`
pub four_alone : AsAlone four.Asked four.Learnt (λ κs a. a.1.1.1.1.0.now)
    (λ κs a. seated
    (client_of a.0.now a.1.1.1.1.1.0.now)
    (client_of a.1.0.now a.1.1.1.1.1.1.0.now)
    (client_of a.1.1.0.now a.1.1.1.1.1.1.1.0.now)
    (client_of a.1.1.1.0.now a.1.1.1.1.1.1.1.1.0.now))
    (λ κs z e. seated
    (gets_by z.first e.1.1.1.1.1.0.now)
    (gets_by z.second e.1.1.1.1.1.1.0.now)
    (gets_by z.third e.1.1.1.1.1.1.1.0.now)
    (gets_by z.fourth e.1.1.1.1.1.1.1.1.0.now))
unfolding alone_of
four_alone κs a z e x p first = ap₂ gets_by p.0 p.1.1.1.1.0
four_alone κs a z e x p second = ap₂ gets_by p.1.0 p.1.1.1.1.1.0
four_alone κs a z e x p third = ap₂ gets_by p.1.1.0 p.1.1.1.1.1.1.0
four_alone κs a z e x p fourth = ap₂ gets_by p.1.1.1.0 p.1.1.1.1.1.1.1

pub four_apart : Apart four.Asked four.Learnt (λ κs a. a.1.1.1.1.0.now)
    (λ κs a. seated
    (client_of a.0.now a.1.1.1.1.1.0.now)
    (client_of a.1.0.now a.1.1.1.1.1.1.0.now)
    (client_of a.1.1.0.now a.1.1.1.1.1.1.1.0.now)
    (client_of a.1.1.1.0.now a.1.1.1.1.1.1.1.1.0.now))
    (λ κs z e. seated
    (gets_by z.first e.1.1.1.1.1.0.now)
    (gets_by z.second e.1.1.1.1.1.1.0.now)
    (gets_by z.third e.1.1.1.1.1.1.1.0.now)
    (gets_by z.fourth e.1.1.1.1.1.1.1.1.0.now))
four_apart κs κs' a a' z z' e e' x x' p p' q s c =
    four_alone κs a z e x p s ∙ ap₂ alone_of q c ∙ sym (four_alone κs' a' z' e' x' p' s)

-- `four_with`
pub four_with_alone : AsAlone four_with.Asked four_with.Learnt (λ κs a. a.1.1.1.1.0.now)
    (λ κs a. seated
    (client_of a.0.now a.1.1.1.1.1.0.now)
    (client_of a.1.0.now a.1.1.1.1.1.1.0.now)
    (client_of a.1.1.0.now a.1.1.1.1.1.1.1.0.now)
    (client_of a.1.1.1.0.now a.1.1.1.1.1.1.1.1.0.now))
    (λ κs z e. seated
    (gets_by z.first e.1.1.1.1.1.0.now)
    (gets_by z.second e.1.1.1.1.1.1.0.now)
    (gets_by z.third e.1.1.1.1.1.1.1.0.now)
    (gets_by z.fourth e.1.1.1.1.1.1.1.1.0.now))
unfolding alone_of
four_with_alone κs a z e x p first = ap₂ gets_by p.0 p.1.1.1.1.0
four_with_alone κs a z e x p second = ap₂ gets_by p.1.0 p.1.1.1.1.1.0
four_with_alone κs a z e x p third = ap₂ gets_by p.1.1.0 p.1.1.1.1.1.1.0
four_with_alone κs a z e x p fourth = ap₂ gets_by p.1.1.1.0 p.1.1.1.1.1.1.1

pub four_with_apart : Apart four_with.Asked four_with.Learnt (λ κs a. a.1.1.1.1.0.now)
    (λ κs a. seated
    (client_of a.0.now a.1.1.1.1.1.0.now)
    (client_of a.1.0.now a.1.1.1.1.1.1.0.now)
    (client_of a.1.1.0.now a.1.1.1.1.1.1.1.0.now)
    (client_of a.1.1.1.0.now a.1.1.1.1.1.1.1.1.0.now))
    (λ κs z e. seated
    (gets_by z.first e.1.1.1.1.1.0.now)
    (gets_by z.second e.1.1.1.1.1.1.0.now)
    (gets_by z.third e.1.1.1.1.1.1.1.0.now)
    (gets_by z.fourth e.1.1.1.1.1.1.1.1.0.now))
four_with_apart κs κs' a a' z z' e e' x x' p p' q s c =
    four_with_alone κs a z e x p s ∙ ap₂ alone_of q c ∙ sym (four_with_alone κs' a' z' e' x' p' s)
