-- The typing law of a loop: inside it each token has two tags more, and credits have no words and no tags.
use Rattle.std.proofs.Common.{◌≡◌, ℕ, zero, suc, ◌+◌, ◌<◌, [], ◌∷◌, length, refl, sym, ap, subst, arith}
use Rattle.p3l_skel.specs.declared.tree.Form.TheVariants.{Loop}
use Rattle.p3l_skel.specs.declared.tree.Tree.{Tree}
use Rattle.p3l_skel.specs.Lawful.{HasWords}
use Rattle.p3l_skel.specs.Tree.{node_at, part_at}
use Rattle.p3l_firing.specs.Process.{times}
use Rattle.p3l_firing.specs.Widths.{Widths, Carries}
use Rattle.p3l_template.specs.Shape.{numbers_from}
use Rattle.p3l_template.specs.Typing.{IsTypedShape, Carry}
use Rattle.p3l_template.specs.laws.TimesLaw.{times_cons}
use Rattle.p3l_loop.specs.Loop.{loop_shape, IsLoopNode}
use Rattle.p3l_loop.specs.LoopKind.{loop_widths}

-- the four channels in the order of their numbers
four : (c : ℕ) → numbers_from c 4 ≡ c ∷ ((c + 1) ∷ ((c + 2) ∷ ((c + 3) ∷ [])))
unfolding numbers_from
four c =
    let a : suc c ≡ c + 1 = omega arith in
    let b : suc (suc c) ≡ c + 2 = omega arith in
    let d : suc (suc (suc c)) ≡ c + 3 = omega arith in
    λ i. c ∷ (a i ∷ (b i ∷ (d i ∷ [])))

-- five numbers one after the other
five : (c v w x y z : ℕ) →
    times c (v ∷ (w ∷ (x ∷ (y ∷ (z ∷ [])))))
    ≡ times c (v ∷ []) + (times c (w ∷ []) + (times c (x ∷ []) + (times c (y ∷ []) + times c (z ∷ []))))
five c v w x y z =
    let a = times_cons c v (w ∷ (x ∷ (y ∷ (z ∷ [])))) in
    let b = times_cons c w (x ∷ (y ∷ (z ∷ []))) in
    let d = times_cons c x (y ∷ (z ∷ [])) in
    let e = times_cons c y (z ∷ []) in
    omega (arith, a, b, d, e)

module _ (tree : Tree) (node : ℕ) (w : Widths) (c t : ℕ) (own : Carry w c (loop_widths tree node t)) where
  to_body : Carries w c (node_at tree node).ins (t + 2)
  unfolding Carry
  to_body = let e : c + 0 ≡ c = omega arith in subst (λ z. Carries w z (node_at tree node).ins (t + 2)) e (own 0 (omega arith))

  from_body : Carries w (c + 1) (node_at tree node).outs (t + 2)
  unfolding Carry
  from_body = own 1 (omega arith)

  back : Carries w (c + 2) (node_at tree node).ins (t + 2)
  unfolding Carry
  back = own 2 (omega arith)

  credits : Carries w (c + 3) 0 0
  unfolding Carry
  credits = own 3 (omega arith)

loop_typed : (tree : Tree) (node tokens turns limit : ℕ) → node < length tree.nodes →
    (node_at tree node).form ≡ Loop turns limit → (node_at tree node).ins ≡ (node_at tree node).outs →
    HasWords tree (part_at tree node 0) (node_at tree node).ins (node_at tree node).outs →
    IsTypedShape tree node (loop_shape node tokens)
loop_typed tree node tokens turns limit there form same part = record {
  widths = λ t. loop_widths tree node t;
  deeper = 2;
  shallow = omega arith;
  count = λ t base. refl;
  tags = λ t. elim [
    | zero ↦ omega arith
    | suc zero ↦ omega arith
    | suc (suc zero) ↦ omega arith
    | suc (suc (suc zero)) ↦ omega arith
    | suc (suc (suc (suc k))) ↦ omega arith
  ];
  credits = λ cap base t. elim [
    | zero ↦ λ l. (omega arith, λ h. absurd (omega (arith, h)))
    | suc zero ↦ λ l. (omega arith, λ h. absurd (omega (arith, h)))
    | suc (suc zero) ↦ λ l. (omega arith, λ h. absurd (omega (arith, h)))
    | suc (suc (suc zero)) ↦ λ l. (omega arith, λ h. refl)
    | suc (suc (suc (suc k))) ↦ λ l. absurd (omega arith)
  ];
  reads = λ base c.
      let a = ap (λ z. times c (base.input ∷ z)) (four base.chan) in
      let b = five c base.input (base.chan + 2) (base.chan + 3) (base.chan + 1) base.chan in
      let d = five c base.input base.chan (base.chan + 1) (base.chan + 2) (base.chan + 3) in
      omega (arith, a, b, d);
  writes = λ base c.
      let a = ap (λ z. times c (base.output ∷ z)) (four base.chan) in
      let b = five c base.chan base.output (base.chan + 2) (base.chan + 3) (base.chan + 1) in
      let d = five c base.output base.chan (base.chan + 1) (base.chan + 2) (base.chan + 3) in
      omega (arith, a, b, d);
  inner = λ base. (tt, (tt, tt));
  procs = λ w base t s. (
    record {
      arg = refl;
      node = there;
      turns = turns;
      tokens = limit;
      form = form;
      ins = refl;
      outs = refl;
      takes = s.input.words;
      back = subst (λ z. Carries w (base.chan + 2) (node_at tree node).ins (z + 2)) (sym s.input.tags)
          (back tree node w base.chan t s.own);
      credits = credits tree node w base.chan t s.own;
      gives = subst (λ z. Carries w base.chan (node_at tree node).ins (z + 2)) (sym s.input.tags)
          (to_body tree node w base.chan t s.own);
    },
    (
      record {
        arg = refl;
        node = there;
        turns = turns;
        tokens = limit;
        form = form;
        ins = refl;
        outs = refl;
        takes = subst (λ z. Carries w (base.chan + 1) (node_at tree node).outs (z + 2)) (sym s.output.tags)
            (from_body tree node w base.chan t s.own);
        back = subst (λ z. Carries w (base.chan + 2) (node_at tree node).outs (z + 2)) (sym s.output.tags)
            (subst (λ z. Carries w (base.chan + 2) z (t + 2)) same (back tree node w base.chan t s.own));
        credits = credits tree node w base.chan t s.own;
        gives = s.output.words;
      },
      tt,
    ),
  );
  slots = λ w base t s. elim [
    | zero ↦ λ l. record {
      input = subst (λ z. Carries w base.chan z (t + 2)) (sym part.takes) (to_body tree node w base.chan t s.own);
      output = subst (λ z. Carries w (base.chan + 1) z (t + 2)) (sym part.gives) (from_body tree node w base.chan t s.own);
    }
    | suc v ↦ λ l. absurd (omega arith)
  ];
}

pub loop_serves : (tree : Tree) (own node tokens : ℕ) → (own ≡ node) × IsLoopNode tree node →
    IsTypedShape tree node (loop_shape own tokens)
loop_serves tree own node tokens s =
    let is = s.1 in
    subst (λ k. IsTypedShape tree node (loop_shape k tokens)) (sym s.0)
    (loop_typed tree node tokens is.most is.tokens is.there is.form is.same is.body)
