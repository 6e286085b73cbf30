-- `put` meets its contract:
-- a start tag or empty tag; an end tag; an item that is none of these.
use Rattle.tape.proofs.Entries.{put_start, put_finish, put_other}
use Rattle.tape.proofs.put.Goals as goal

pub returns-in-Start : goal.returns-in-Start
returns-in-Start c =
    let all = put_start _ _ _ c.in-Start.is c.tag_kind-kind.ensures c.store.ensures in
    record { value = all.0; tape_after = all.1 }

pub returns-in-Finish : goal.returns-in-Finish
returns-in-Finish c =
    let all = put_finish _ _ _ c.in-Finish.is c.store-in-Finish.ensures in
    record { value = all.0; tape_after = all.1 }

pub returns : goal.returns
returns c =
    let all = put_other c.args.tape.now c.args.k c.args.at c.args.item c.in_default.not-Start c.in_default-item.not-Finish in
    record { value = all.0; tape_after = all.1 }
