use Rattle.std.proofs.Common.{◌≡◌, ◌+◌, ℕ, zero, suc, List, [], ◌∷◌, length, map, subst, refl, ap, ◌∙◌, arith}
use Rattle.p3l_base.specs.Memory.{IfGiven}
use Rattle.p3l_firing.specs.Nodes.{last_element}
use Rattle.p3l_firing.specs.State.{State}
use Rattle.p3l_firing.specs.declared.token.Token.{Token}
use Rattle.p3l_template.specs.Shape.{Base, fan_slots}
use Rattle.p3l_template.specs.Lines.{lines_by}
use Rattle.p3l_template.specs.Finding.{if_orderly}
use Rattle.p3l_map.specs.MapKind.{bare_pieces, line_at, found_by, map_finds, seen_of}
use Rattle.p3l_firing.specs.Shot.{state_of, token_of}
use Rattle.p3l_map.specs.laws.MapFound.{found-bare}
use Rattle.p3l_map.proofs.map.MapTemplateKind.pending.Goals as goal

lines_count : (s : State) (i o n : ℕ) (inner : List (List Token)) → length inner ≡ n → length (lines_by s (fan_slots i o n) inner) ≡ n
unfolding lines_by fan_slots
lines_count s i o zero inner h = refl
lines_count s i o (suc n) [] h = absurd (omega (arith, h))
lines_count s i o (suc n) (p ∷ ps) h = ap suc (lines_count s (suc i) (suc o) n ps (omega (arith, h)))

pub by_lines-requires : goal.by_lines-requires
by_lines-requires c =
    let s = state_of c.args.shot.now in
    let lines = ap length (c.as_slice.ensures ∙ c.in_ok-lines.ensures) ∙ lines_count s _ _ c.args.self.now.workers c.args.inner.now c.requires.inner in
    record {
      number = omega (arith, c.number_of_pieces-number.ensures);
      lines = omega (arith, lines, c.requires.fit);
      held = c.held-held.ensures.few c.requires.few;
      sending = c.held-sending.ensures.few c.requires.few;
    }

pub returns : goal.returns
unfolding map_finds
returns c =
    let s = state_of c.args.shot.now in
    let n = c.args.self.now.workers in
    let lines = c.as_slice.ensures ∙ c.in_ok-lines.ensures in
    let many : length c.as_slice.result.now ≡ n = ap length lines ∙ lines_count s _ _ n c.args.inner.now c.requires.inner in
    let e : found_by (bare_pieces c.number_of_pieces-number.result (length c.as_slice.result.now)) (record {
      lines = line_at c.as_slice.result.now;
      held = map token_of c.held-held.result.now;
      sending = map token_of c.held-sending.result.now;
      sent = c.number-sent.result;
      input = [];
      output = [];
    }) ≡ map_finds c.args.self.now.node n c.args.tree.now c.args.place.now s c.args.inner.now =
    (λ i. found_by (bare_pieces (c.number_of_pieces-number.ensures i) (many i)) (record {
      lines = line_at (lines i);
      held = map token_of (c.held-held.ensures.saved i);
      sending = map token_of (c.held-sending.ensures.saved i);
      sent = c.number-sent.ensures i;
      input = [];
      output = [];
    }))
    ∙ found-bare (suc (last_element c.args.tree.now c.args.self.now.node)) n
    (line_at (lines_by s (fan_slots c.place.inside.chan (c.place.inside.chan + n) n) c.args.inner.now)) (s.own (c.place.inside.proc + 1)).held
    (s.own c.place.inside.proc).held (s.own c.place.inside.proc).number
    ∙ ap (λ (x : Base). found_by (bare_pieces (suc (last_element c.args.tree.now c.args.self.now.node)) n) (seen_of n x s c.args.inner.now))
    c.place.view_is in
    subst (λ z. IfGiven c.by_lines.result (λ pending. pending ≡ if_orderly z)) e c.by_lines.ensures
