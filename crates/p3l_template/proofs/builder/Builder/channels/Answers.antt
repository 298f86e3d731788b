-- Each turn gives the next number.
use Rattle.std.proofs.Common.{◌≡◌, ◌+◌, ◌<◌, ◌≤◌, ◌++◌, [], ◌∷◌, ℕ, suc, length, ◌-◌, sym, ap, ap₂, ◌∙◌, arith, append_assoc, append-nil, length-append}
use Rattle.std.proofs.lemmas.List.{replicate-append-replicate}
use Rattle.p3l_template.specs.Shape.{empty_chan, numbers_from}
use Rattle.p3l_template.proofs.builder.Builder.channels.Goals as goal

numbers_step : (c done count : ℕ) → done < count →
    numbers_from c (count - done) ≡ c ∷ numbers_from (c + 1) (count - (done + 1))
unfolding numbers_from
numbers_step c done count h =
    let e : count - done ≡ suc (count - (done + 1)) = omega arith in
    ap (numbers_from c) e ∙ ap (λ z. c ∷ numbers_from z (count - (done + 1))) (omega arith)

numbers_end : (c done count : ℕ) → count ≤ done → numbers_from c (count - done) ≡ []
unfolding numbers_from
numbers_end c done count h = let e : count - done ≡ 0 = omega arith in ap (numbers_from c) e

pub loop-done-preserved : goal.loop-done-preserved
loop-done-preserved c =
    let a = c.in_ok-number.ensures.added in
    let i = c.loop-done.invariant in
    record {
      procs = ap (λ b. b.procs) a ∙ i.procs;
      chans =
          ap (λ b. b.chans) a ∙ ap (λ z. z ++ empty_chan c.args.cap ∷ []) i.chans ∙ append_assoc c.args.self.now.chans _ _
          ∙ ap (λ z. c.args.self.now.chans ++ z) (replicate-append-replicate c.loop-done._done 1 (empty_chan c.args.cap));
      numbers =
          ap₂ (λ y z. y ++ numbers_from z (c.args.count - (c.loop-done._done + 1))) c.in_ok-push.ensures.ok
          (ap (λ b. length b.chans) a ∙ length-append c.loop-done.self.chans (empty_chan c.args.cap ∷ []))
          ∙ append_assoc c.loop-done.numbers _ _
          ∙ ap (λ z. c.loop-done.numbers
          ++ (z ∷ numbers_from (length c.loop-done.self.chans + 1) (c.args.count - (c.loop-done._done + 1))))
          c.in_ok-number.ensures.number
          ∙ ap (λ z. c.loop-done.numbers ++ z)
          (sym (numbers_step (length c.loop-done.self.chans) c.loop-done._done c.args.count c.loop-done-test.true))
          ∙ i.numbers;
    }

pub returns-clause-numbers : goal.returns-clause-numbers
returns-clause-numbers c =
    sym (append-nil c.loop-done.numbers)
    ∙ ap (λ z. c.loop-done.numbers ++ z)
    (sym (numbers_end (length c.loop-done.self.chans) c.loop-done._done c.args.count c.loop-done-test.false))
    ∙ c.loop-done.invariant.numbers
