-- `serve` meets its contract:
-- a list at fault decides, and a sound one leaves it to the pass.
use Rattle.four.proofs.Serving.{services}
use Rattle.four.proofs.parts.serve.Goals as goal

pub returns-in-Ok : goal.returns-in-Ok
returns-in-Ok c = search services

pub returns-in-Err : goal.returns-in-Err
returns-in-Err c = search services
