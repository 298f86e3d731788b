-- The survey of a node: each of its channels that carries words carries at least as many tags as the tokens outside it.
use Rattle.std.proofs.Common.{◌≡◌, ◌⊎◌, ℕ, zero, suc, ◌+◌, ◌≤◌, List, [], ◌∷◌, length, refl, arith, inl, inr}
use Rattle.std.specs.List.{AllByRecursion}
use Rattle.p3l_skel.specs.declared.tree.Tree.{Tree}
use Rattle.p3l_skel.specs.Tree.{part_at}
use Rattle.p3l_template.specs.Kind.{Kind}
use Rattle.p3l_template.specs.Shape.{Base, Slot}
use Rattle.p3l_template.specs.Tagged.{IsNear}
use Rattle.p3l_template.specs.declared.width.Width.{Width}
use Rattle.p3l_loop.specs.LoopKind.{loop_widths}
use Rattle.p3l_link.specs.Net.{base_at}
use Rattle.p3l_link.specs.Shape.{kind_at}
use Rattle.p3l_link.proofs.AnyKind.{tagged_at}
use Rattle.p3l_fitting.specs.Survey.{inner_survey, node_survey}
use Rattle.p3l_fitting.specs.declared.survey.Survey.{Survey}
use Rattle.p3l_resume_laws.proofs.Lists.{all_append, all_so}

-- a channel of this width carries no words, or t tags at least
abbrev pub IsDeep : ℕ → Width → Type 0
IsDeep t x = (x.words ≡ 0) ⊎ (t ≤ x.tags)

-- the channels of a loop lie two tags deeper
pub loop_deep : (tree : Tree) (k t : ℕ) → AllByRecursion (IsDeep (t + 2)) (loop_widths tree k t)
loop_deep tree k t = (inr (omega arith), (inr (omega arith), (inr (omega arith), (inl refl, tt))))

pub inner_deep : (t : ℕ) (g : ℕ → Base → Survey) → ((v : ℕ) (b : Base) → AllByRecursion (IsDeep t) (g v b).widths) → (slots : List Slot)
    (p c : ℕ) → AllByRecursion (IsDeep t) (inner_survey g slots p c).widths
unfolding inner_survey
inner_deep t g each [] p c = tt
inner_deep t g each (x ∷ xs) p c =
    all_append (IsDeep t) (g x.part (base_at x p c)).widths _ (each x.part (base_at x p c))
    (inner_deep t g each xs (p + (g x.part (base_at x p c)).procs) (c + length (g x.part (base_at x p c)).widths))

less_deep : (t u : ℕ) → t ≤ u → (x : Width) → IsDeep u x → IsDeep t x
less_deep t u less x deep = elim deep [ inl none ↦ inl none | inr enough ↦ inr (omega (arith, less, enough)) ]

pub survey_deep : (tree : Tree) (count : ℕ → ℕ) (d k t : ℕ) (base : Base) → AllByRecursion (IsDeep t) (node_survey tree count d k t base).widths
unfolding node_survey
survey_deep tree count zero k t base = tt
survey_deep tree count (suc d) k t base =
    let kind : Kind = kind_at tree count k in
    let row : List Width = kind.widths tree k t in
    let tagged = tagged_at tree count k in
    let inner = inner_deep (t + kind.deeper) (λ v. node_survey tree count d (part_at tree k v) (t + kind.deeper))
    (λ v b. survey_deep tree count d (part_at tree k v) (t + kind.deeper) b) (kind.shape.slots base)
    (base.proc + length (kind.shape.procs base)) (base.chan + length row) in
    all_append (IsDeep t) row _ (all_so (IsNear t) (IsDeep t) (λ x near. near.0) row (tagged.near t))
    (all_so (IsDeep (t + kind.deeper)) (IsDeep t) (less_deep t (t + kind.deeper) (omega arith)) _ inner)
