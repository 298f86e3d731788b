use Rattle.std.proofs.Common.{◌≡◌, ◌<◌, ◌++◌, ℕ, List, [], length, get_or, Some, None, sym, ap, ◌∙◌, subst, arith, length-set}
use Rattle.std.specs.Prelude.{slice_get}
use Rattle.std.specs.List.{AllByRecursion}
use Rattle.p3l_firing.specs.declared.net.Net.{Net}
use Rattle.p3l_firing.specs.declared.process.Proc.{Proc}
use Rattle.p3l_net.proofs.Sides.{get_is, ins_inside, outs_inside}
use Rattle.p3l_timed.specs.Moments.{due_at}
use Rattle.p3l_timed.specs.Clock.{IsOnTheWay}
use Rattle.p3l_timed.specs.Due.{without}
use Rattle.p3l_timed.specs.Price.{price_at}
use Rattle.p3l_timed.proofs.Round.{round_begun, round_ended}
use Rattle.p3l_timed.proofs.look.look_round.Goals as goal

pub look_along-requires-clause-there : goal.look_along-requires-clause-there
look_along-requires-clause-there c =
    let m = c.args.machine.now in
    let q = c.index-as_slice-p.result in
    let procs = c.as_slice.ensures ∙ ap (λ (x : Net). x.procs) c.net.ensures in
    let stands : slice_get m.net.procs c.args.p ≡ Some q = get_is m.net.procs c.args.p q c.requires.there (c.index-as_slice-p.is ∙ ap (λ (xs : List Proc). get_or xs c.args.p q) procs) in
    subst (AllByRecursion (λ d. d < length m.net.chans)) (sym c.as_slice-2.ensures) (ins_inside c.requires.typed c.args.p q stands)

pub look_along-requires-2-clause-there : goal.look_along-requires-2-clause-there
look_along-requires-2-clause-there c =
    let m = c.args.machine.now in
    let q = c.index-as_slice-p.result in
    let procs = c.as_slice.ensures ∙ ap (λ (x : Net). x.procs) c.net.ensures in
    let stands : slice_get m.net.procs c.args.p ≡ Some q = get_is m.net.procs c.args.p q c.requires.there (c.index-as_slice-p.is ∙ ap (λ (xs : List Proc). get_or xs c.args.p q) procs) in
    subst (AllByRecursion (λ d. d < length m.net.chans)) (sym c.as_slice-3.ensures) (outs_inside c.requires.typed c.args.p q stands)

pub returns-clause-due : goal.returns-clause-due
returns-clause-due c =
    let m = c.args.machine.now in
    let p = c.args.p in
    let price = price_at c.args.prices.now in
    let q = c.index-as_slice-p.result in
    let due = c.args.moments.now in
    let before = without p (due_at due) in
    let procs = c.as_slice.ensures ∙ ap (λ (x : Net). x.procs) c.net.ensures in
    let stands : slice_get m.net.procs p ≡ Some q = get_is m.net.procs p q c.requires.there (c.index-as_slice-p.is ∙ ap (λ (xs : List Proc). get_or xs p q) procs) in
    let size = c.requires.can.size in
    let room = c.requires.can.room in
    let less = c.requires.there in
    let there : p < length due = omega (arith, less, size, room) in
    let long = ap length c.put.ensures ∙ length-set due p None in
    let begun = round_begun m price c.args.moment p q due c.put.new.self c.look.new.moments stands there c.requires.others c.put.ensures (omega (arith, there, long)) c.look.ensures in
    let ins = c.look_along.ensures.way p (q.outs ++ []) before (subst (λ (cs : List ℕ). IsOnTheWay m price c.args.moment p (cs ++ (q.outs ++ [])) before c.look.new.moments) (sym c.as_slice-2.ensures) begun) in
    let outs = c.look_along-2.ensures.way p [] before (subst (λ (cs : List ℕ). IsOnTheWay m price c.args.moment p (cs ++ []) before c.look_along.new.moments) (sym c.as_slice-3.ensures) ins) in
    round_ended outs
