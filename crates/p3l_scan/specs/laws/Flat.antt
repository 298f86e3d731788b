-- The stages of a pipe have tokens of as many tags as the pipe, and a template without channels has none.
use Rattle.std.proofs.Common.{◌≡◌, ℕ, zero, suc, ◌+◌, ◌≤◌, List, [], ◌∷◌, length, get_or, refl, ap, arith}
use Rattle.p3l_skel.specs.declared.tree.Tree.{Tree}
use Rattle.p3l_skel.specs.Tree.{node_at}
use Rattle.p3l_firing.specs.Widths.{Widths}
use Rattle.p3l_template.specs.Pipe.{pipe_shape, stage_slots}
use Rattle.p3l_template.specs.Shape.{Base, no_slot}
use Rattle.p3l_template.specs.Typing.{Carry, IsTypedShape, StandsTyped}
use Rattle.p3l_template.specs.Width.{no_width}
use Rattle.p3l_template.specs.declared.width.Width.{Width}
use Rattle.p3l_template.specs.laws.PipeTyping.{stages_length}

pub no_tags : (row : List Width) (k n : ℕ) → length row ≡ 0 → (get_or row k no_width).tags ≤ n
no_tags [] k n e = omega arith
no_tags (x ∷ row) k n e = absurd (omega (arith, e))

first_input : (u x c y k : ℕ) → (get_or (stage_slots u x c y k) 0 no_slot).input ≡ x
unfolding stage_slots
first_input u x c y zero = refl
first_input u x c y (suc k) = refl

-- at the first stage are the tokens of the pipe itself
pub pipe_flat : (tree : Tree) (d : ℕ) (typed : IsTypedShape tree 0 (pipe_shape d)) → typed.deeper ≡ 0
unfolding Carry
pipe_flat tree d typed =
    let base : Base = record { input = 0; output = 1; proc = 0; chan = 2 } in
    let all : List Width = record { words = (node_at tree 0).ins; tags = 0 }
    ∷ (record { words = (node_at tree 0).outs; tags = 0 } ∷ typed.widths 0) in
    let w : Widths = record { words = λ c. (get_or all c no_width).words; tags = λ c. (get_or all c no_width).tags } in
    let stands : StandsTyped tree 0 w base 0 (typed.widths 0) =
    record {
      input = record { words = refl; tags = refl };
      output = record { words = refl; tags = refl };
      own = λ i l.
          let e : 2 + i ≡ suc (suc i) = omega arith in
          record { words = ap (λ c. (get_or all c no_width).words) e; tags = ap (λ c. (get_or all c no_width).tags) e };
    } in
    let slot = typed.slots w base 0 stands 0 (omega (arith, stages_length 0 0 2 1 d)) in
    let first : (get_or (stage_slots 0 0 2 1 d) 0 no_slot).input ≡ 0 = first_input 0 0 2 1 d in
    let input = slot.input in
    omega (arith, ap (λ c. (get_or all c no_width).tags) first, input.tags)
