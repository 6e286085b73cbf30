-- `after_chars` meets its contract. The loop's invariant: from at up to i there are Chars alone.
-- The measure is what is left of the slice.
use native.Mathlib.Omega.{arith}
use Rattle.chars.proofs.Checks.{reading}
use Rattle.chars.proofs.whole.after_chars.Goals as goal

pub returns-then-s-i : goal.returns-then-s-i
returns-then-s-i c = record {
  passes = search reading;
  s_value = search reading;
}

pub returns-then-not-is_char : goal.returns-then-not-is_char
returns-then-not-is_char c = record {
  passes = search reading;
  s_value = search reading;
}

pub loop-i-smaller-in-Some : goal.loop-i-smaller-in-Some
loop-i-smaller-in-Some c = search reading

pub loop-i-preserved-in-Some : goal.loop-i-preserved-in-Some
loop-i-preserved-in-Some c = search reading

pub returns-in-None : goal.returns-in-None
returns-in-None c = record {
  passes = search reading;
  s_value = search reading;
}

pub loop-i-preserved : goal.loop-i-preserved
loop-i-preserved c = search reading

pub returns : goal.returns
returns c = record {
  passes = search reading;
  s_value = (λ h. absurd (omega arith));
}
