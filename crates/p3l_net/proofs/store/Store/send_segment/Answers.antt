use Rattle.std.proofs.Common.{◌≡◌, suc, ◌+◌, cond, nat_lt, [], ◌∷◌, sym, ap, ap₂, ◌∙◌, subst, arith}
use Rattle.p3l_firing.specs.Process.{out_of}
use Rattle.p3l_firing.specs.State.{own_at, counted, fresh}
use Rattle.p3l_net.specs.Machine.{Seen}
use Rattle.p3l_net.specs.Steps.{CanPut, ticked, with_last, with_own}
use Rattle.p3l_net.proofs.Standing.{here, is_kind}
use Rattle.p3l_net.proofs.step.Split.{segment_there, puts, sent, fired_sent}
use Rattle.p3l_net.proofs.store.Store.send_segment.Goals as goal

pub segment_line-line-requires-clause-number : goal.segment_line-line-requires-clause-number
segment_line-line-requires-clause-number c = segment_there (here c.requires.may c.process-process.ensures) (is_kind c.requires.may c.process-process.ensures) c.requires.holds

pub put-requires : goal.put-requires
put-requires c = subst (CanPut c.args.self.now) (sym c.segment_line-line.ensures) (puts c.requires.may c.process-process.ensures c.requires.holds)

pub returns-clause-done : goal.returns-clause-done
returns-clause-done c = λ leaf.
    let m : Seen = c.args.self.now in
    let q = c.process-process.result.now in
    let line = c.segment_line-line.ensures in
    let number = c.number-next.ensures in
    let next : c.number-next.result + 1 ≡ suc (own_at m.owns c.args.p).number = omega (arith, number) in
    let put = c.put.ensures ∙ ap₂ (with_last m) line c.in_ok-segment.ensures in
    let passed = c.pass_piece.ensures
    ∙ ap (λ (x : Seen). with_own x c.args.p (cond (nat_lt (c.number-next.result + 1) c.len.result) (counted (own_at x.owns c.args.p)) fresh)) put
    ∙ ap₂ (λ a b. with_own (with_last m (out_of q (own_at m.owns c.args.p).number) (sent c.requires.may c.process-process.ensures c.requires.holds)) c.args.p (cond (nat_lt a b) (counted (own_at m.owns c.args.p)) fresh)) next c.len.ensures in
    fired_sent c.requires.may c.process-process.ensures c.requires.holds leaf _
    (c.tick.ensures ∙ ap ticked passed)
    _ (c.one.ensures ∙ ap (λ k. k ∷ []) line)
