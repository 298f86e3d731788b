-- The laws of the scan's template, from those of its parts.
use Rattle.std.proofs.Common.{◌≡◌, ℕ, zero, suc, ◌+◌, ◌-◌, ◌^◌, ◌<◌, ◌≤◌, refl, sym, ap, ◌∙◌, subst, arith}
use Rattle.p3l_skel.specs.declared.tree.Tree.{Tree}
use Rattle.p3l_map.specs.MapShape.{map_shape}
use Rattle.p3l_map.specs.laws.MapLaw.{map_lawful}
use Rattle.p3l_map.specs.laws.MapTyping.{map_serves}
use Rattle.p3l_scan.specs.Nested.{AreInner, AreTypedInner}
use Rattle.p3l_template.specs.Pipe.{pipe_shape}
use Rattle.p3l_template.specs.Placed.{IsLawfulShape}
use Rattle.p3l_template.specs.Run.{run_shape}
use Rattle.p3l_template.specs.Shape.{Blueprint}
use Rattle.p3l_template.specs.Typing.{IsTypedShape}
use Rattle.p3l_template.specs.laws.Fan.{fan_at}
use Rattle.p3l_scan.specs.laws.NestedLaw.{nested_lawful}
use Rattle.p3l_scan.specs.laws.NestedTyping.{nested_typed}
use Rattle.p3l_template.specs.laws.PipeLaw.{pipe_lawful}
use Rattle.p3l_template.specs.laws.PipeTyping.{pipe_typed, stage_part}
use Rattle.p3l_template.specs.laws.RunLaw.{run_lawful}
use Rattle.p3l_template.specs.laws.RunTyping.{run_serves}
use Rattle.p3l_scan.specs.Plan.{stage_node, step_node}
use Rattle.p3l_scan.specs.Template.{IsScan, IsStage, blocks, scan_shape, stage_shape}
use Rattle.p3l_scan.specs.laws.Flat.{no_tags, pipe_flat}

-- A STAGE

pub steps_inner : (stage step n : ℕ) → AreInner (map_shape stage n) (λ v. 0) (λ v. run_shape step)
steps_inner stage step n = record {
  part = λ base v l. ap (λ z. z.part) (fan_at base.chan (base.chan + n) n v l);
  lawful = λ v l. run_lawful step;
  closed = λ v l. refl;
}

pub stage_lawful : (stage step n : ℕ) → 0 < n → IsLawfulShape (stage_shape stage step n)
stage_lawful stage step n pos =
    nested_lawful (map_shape stage n) (λ v. 0) (λ v. run_shape step) (map_lawful stage n pos) (steps_inner stage step n)

stage_typed : (tree : Tree) (stage step n : ℕ) → IsStage tree stage step n →
    IsTypedShape tree stage (stage_shape stage step n)
stage_typed tree stage step n is =
    let inners : AreTypedInner tree stage (map_shape stage n) (λ v. 0) (λ v. run_shape step) =
    record {
      each = λ v l. subst (λ k. IsTypedShape tree k (run_shape step)) (sym is.below) (run_serves tree step step (refl, is.run));
    } in
    let typed : IsTypedShape tree stage (map_shape stage n) = map_serves tree stage stage n (refl, is.map) in
    nested_typed tree stage (map_shape stage n) (λ v. 0) (λ v. run_shape step) (map_lawful stage n (omega (arith, is.some)))
    (steps_inner stage step n) typed inners
    (record {
      low = λ t v k l.
          let i = inners.each v l in
          no_tags (i.widths (t + typed.deeper)) k (t + 2)
          (i.count (t + typed.deeper) (record { input = 0; output = 0; proc = 0; chan = 0 }));
    })

pub stage_serves : (tree : Tree) (own node step n : ℕ) → (own ≡ node) × IsStage tree node step n →
    IsTypedShape tree node (stage_shape own step n)
stage_serves tree own node step n s =
    subst (λ k. IsTypedShape tree node (stage_shape k step n)) (sym s.0) (stage_typed tree node step n s.1)

-- THE WHOLE

pub some_blocks : (d s : ℕ) → 0 < blocks d s
some_blocks d s = power (d - s) where
  power : (n : ℕ) → 0 < 2 ^ n
  power zero = omega arith
  power (suc n) = let h = power n in omega (arith, h)

module _ (d : ℕ) where
  abbrev stage : ℕ → Blueprint
  stage s = stage_shape (stage_node s) (step_node s) (blocks d s)

  pub stages_inner : AreInner (pipe_shape d) (λ v. v) stage
  stages_inner = record {
    part = λ base v l. stage_part 0 base.input base.chan base.output d v l ∙ omega arith;
    lawful = λ v l. stage_lawful (stage_node v) (step_node v) (blocks d v) (some_blocks d v);
    closed = λ v l. refl;
  }

  pub scan_lawful : IsLawfulShape (scan_shape d)
  scan_lawful = nested_lawful (pipe_shape d) (λ v. v) stage (pipe_lawful d) stages_inner

  pub scan_typed : (tree : Tree) → IsScan tree d → IsTypedShape tree 0 (scan_shape d)
  scan_typed tree is =
      let inners : AreTypedInner tree 0 (pipe_shape d) (λ v. v) stage =
      record {
        each = λ v l.
            let h : v ≤ d = omega (arith, l) in
            subst (λ k. IsTypedShape tree k (stage v)) (sym (is.parts v h))
            (stage_typed tree (stage_node v) (step_node v) (blocks d v) (is.stages v h));
      } in
      let typed : IsTypedShape tree 0 (pipe_shape d) = pipe_typed tree 0 d is.pipe.parts is.pipe.chain in
      nested_typed tree 0 (pipe_shape d) (λ v. v) stage (pipe_lawful d) stages_inner typed inners
      (record {
        low = λ t v k l.
            let i = inners.each v l in
            let tags = i.tags (t + typed.deeper) k in
            omega (arith, tags, pipe_flat tree d typed);
      })

pub scan_serves : (tree : Tree) (d node : ℕ) → (node ≡ 0) × IsScan tree d → IsTypedShape tree node (scan_shape d)
scan_serves tree d node s = subst (λ k. IsTypedShape tree k (scan_shape d)) (sym s.0) (scan_typed d tree s.1)
