use Rattle.std.proofs.Common.{◌≡◌, Option, Some, None, refl, sym, ap, subst, ◌∙◌}
use Rattle.p3l_base.specs.declared.outcome.Trap.{Trap}
use Rattle.p3l_stream.specs.declared.items.Ending.{Ending}
use Rattle.p3l_run.specs.Replay.{cut_of}
use Rattle.p3l_run.specs.Run.{MayEnd, end_of}
use Rattle.p3l_run.proofs.FeedSteps.{is_none, not_none}
use Rattle.p3l_run.proofs.ReplaySteps.{ends_cut, ends_saved, ends_trapped, few_sent, is_countable, no_trap, trapped_is}
use Rattle.p3l_run.proofs.execution.Execution.into_checkpoint.Goals as goal

-- a stream with no other end isn't cut off
not_cut : (o close : Option Ending) → o ≡ cut_of close → ((x : Ending) → o ≡ Some x → ⊥) → cut_of close ≡ None
not_cut None close is none = sym is
not_cut (Some x) close is none = absurd (none x refl)

pub returns-then-is_some : goal.returns-then-is_some
returns-then-is_some c = λ r now named_is h. ends_trapped r now c.args.self h c.args.self.emitted.trap refl (not_none Trap c.args.self.emitted.trap c.is_some.result c.is_some.ensures c.if-is_some.true) c.args.named.now named_is _
    (λ x may. c.in_ok-finish.ensures x (subst (λ o. MayEnd o x) (sym c.ending-close.ensures) may) ∙ ap (λ k. end_of c.args.named.now c.args.self.emitted.trap k x) c.emitted-number.ensures)

pub returns-in-Some : goal.returns-in-Some
returns-in-Some c = λ r now named_is h. ends_cut r now c.args.self h (is_none Trap c.args.self.emitted.trap c.is_some.result c.is_some.ensures c.if-is_some.false) c.in-Some.ending (ap cut_of (sym c.ending-close.ensures) ∙ sym c.cut_off.ensures ∙ c.in-Some.is)

pub save-requires-clause-untrapped : goal.save-requires-clause-untrapped
save-requires-clause-untrapped c =
    let h = c.requires.2 in
    let d = h.replays in
    trapped_is c.requires.0 h.used h.unused c.requires.1 c.args.self d ∙ no_trap d.outcomes (sym d.trap_is ∙ is_none Trap c.args.self.emitted.trap c.is_some.result c.is_some.ensures c.if-is_some.false)

pub save-requires-clause-sent : goal.save-requires-clause-sent
save-requires-clause-sent c = few_sent c.requires.0 c.requires.2.used c.requires.2.unused c.requires.1 c.args.self c.requires.2.replays

pub save-requires-clause-countable : goal.save-requires-clause-countable
save-requires-clause-countable c = is_countable c.requires.0 c.requires.1 c.args.self c.requires.2

pub returns : goal.returns
returns c = λ r now named_is h. ends_saved r now c.args.self h (is_none Trap c.args.self.emitted.trap c.is_some.result c.is_some.ensures c.if-is_some.false) (not_cut c.cut_off.result _ (c.cut_off.ensures ∙ ap cut_of c.ending-close.ensures) c.in_default.not-Some) c.in_ok-saved.saved c.in_ok-saved.ensures
