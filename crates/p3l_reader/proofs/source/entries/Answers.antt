use Rattle.std.proofs.Common.{◌+◌, suc, drop, sym}
use Rattle.std.proofs.lemmas.List.{take-append-drop}
use Rattle.p3l_reader.proofs.FirstFault.{front_kept, fault_whole, if_ok}
use Rattle.p3l_reader.proofs.source.entries.Goals as goal

pub returns-in-None-clause-within : goal.returns-in-None-clause-within
returns-in-None-clause-within c = if_ok c.within.result _ c.in-None.ensures.none

pub returns-in-Some-clause-only : goal.returns-in-Some-clause-only
returns-in-Some-clause-only c = λ es d w. absurd (c.in-Some.ensures.past (front_kept c.args.tokens.now (suc c.in-Some.at) w))

pub returns-in-Some-clause-first : goal.returns-in-Some-clause-first
returns-in-Some-clause-first c =
    fault_whole c.args.tokens.now _ (drop (c.in-Some.at + 1) c.args.tokens.now) c.args.end c.beyond.result (sym (take-append-drop (c.in-Some.at + 1) c.args.tokens.now)) c.beyond.ensures
