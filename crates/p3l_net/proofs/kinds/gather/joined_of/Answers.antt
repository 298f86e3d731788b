use Rattle.std.proofs.Common.{◌≡◌, ℕ, ◌+◌, List, [], ◌∷◌, ◌++◌, drop, length, sym, ap, ◌∙◌, subst, arith, length-append}
use Rattle.std.proofs.Math.ListN.{drop_of_length-le}
use Rattle.std.specs.List.{All}
use Rattle.std.proofs.lemmas.List.Elements.{All-nil}
use Rattle.p3l_base.specs.declared.outcome.Outcome.TheVariants.{Value}
use Rattle.p3l_base.specs.Cut.{element_size, joined_words}
use Rattle.p3l_skel.proofs.Elements.{sized-more}
use Rattle.p3l_skel.specs.Tree.{HasLength}
use Rattle.p3l_firing.specs.declared.token.Token.{Token}
use Rattle.p3l_net.proofs.Joining.{all_at, left_first, gathered_from, from_start, from_value, from_trap, from_end}
use Rattle.p3l_net.proofs.kinds.gather.joined_of.Goals as goal

pub loop-token-init : goal.loop-token-init
loop-token-init c = record {
  same = ap (λ rs. gathered_from (joined_words c.args.cut.now) rs c.args.held.now) c.new-results.ensures ∙ from_start (joined_words c.args.cut.now) c.args.held.now;
  count = ap length c.new-results.ensures;
  sized = subst (All (λ words. length words ≡ element_size c.args.cut.now.outs)) (sym c.new-results.ensures) (All-nil (λ words. length words ≡ element_size c.args.cut.now.outs));
}

pub returns-in-Trapped : goal.returns-in-Trapped
returns-in-Trapped c =
    let join = joined_words c.args.cut.now in
    let token = c.token-item.result in
    sym (from_trap join c.loop-token.results c.in-Trapped.trap token (drop (c.loop-token.token-index + 1) c.args.held.now) c.in-Trapped.is)
    ∙ sym (ap (gathered_from join c.loop-token.results) (left_first c.args.held.now c.loop-token.token-index token c.loop-token-test.true c.token-item.is))
    ∙ c.loop-token.invariant.same

pub loop-token-preserved : goal.loop-token-preserved
loop-token-preserved c =
    let join = joined_words c.args.cut.now in
    let size : ℕ = element_size c.args.cut.now.outs in
    let token = c.token-item.result in
    let rest : List Token = drop (c.loop-token.token-index + 1) c.args.held.now in
    let added = c.in_ok-push-in-Value.ensures.ok in
    let same = c.in_ok-copied-in-Value.ensures in
    let fits = all_at (λ (x : Token). HasLength size x.body) c.args.held.now c.requires.sizes c.loop-token.token-index token c.loop-token-test.true c.token-item.is in
    let long = ap length added in
    let count = c.loop-token.invariant.count in
    record {
      same =
          ap (λ rs. gathered_from join rs rest) (added ∙ ap (λ w. c.loop-token.results ++ w ∷ []) same)
          ∙ sym (from_value join c.loop-token.results c.in-Value.words token rest c.in-Value.is)
          ∙ sym (ap (gathered_from join c.loop-token.results) (left_first c.args.held.now c.loop-token.token-index token c.loop-token-test.true c.token-item.is))
          ∙ c.loop-token.invariant.same;
      count = omega (arith, long, count, length-append c.loop-token.results (c.in_ok-copied-in-Value.field-0 ∷ []));
      sized = sized-more size c.loop-token.results c.push.new.self c.in_ok-copied-in-Value.field-0 (ap length same ∙ subst (HasLength size) c.in-Value.is fits) added c.loop-token.invariant.sized;
    }

pub returns : goal.returns
returns c =
    let join = joined_words c.args.cut.now in
    ap Value c.in_ok-join.ensures ∙ sym (from_end join c.loop-token.results)
    ∙ sym (ap (gathered_from join c.loop-token.results) (drop_of_length-le c.args.held.now c.loop-token-test.false))
    ∙ c.loop-token.invariant.same
