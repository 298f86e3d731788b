use Rattle.std.proofs.Common.{◌≡◌, List, [], ◌∷◌, length, get_or, subst, refl, ap, ◌∙◌, arith}
use Rattle.p3l_base.specs.Memory.{IfGiven}
use Rattle.p3l_firing.specs.Nodes.{turns_of}
use Rattle.p3l_firing.specs.declared.token.Token.{Token}
use Rattle.p3l_template.specs.Finding.{if_orderly}
use Rattle.p3l_loop.specs.LoopKind.{loop_finds, found_by, seen_of}
use Rattle.p3l_firing.specs.Shot.{state_of}
use Rattle.p3l_loop.proofs.loops.LoopTemplateKind.pending.Goals as goal

first_or : (ps : List (List Token)) (p : List Token) → length ps ≡ 1 → get_or ps 0 p ≡ get_or ps 0 []
first_or [] p h = absurd (omega (arith, h))
first_or (x ∷ xs) p h = refl

pub returns : goal.returns
unfolding loop_finds
returns c =
    let s = state_of c.args.shot.now in
    let body : c.index-inner-0.result ≡ get_or c.args.inner.now 0 [] =
    c.index-inner-0.is ∙ first_or c.args.inner.now c.index-inner-0.result c.requires.inner in
    let seen = c.in_ok-seen.ensures ∙ ap (seen_of c.args.place.now s) body in
    subst (λ z. IfGiven c.by_seen.result (λ pending. pending ≡ if_orderly z))
    (ap (λ n. found_by n c.args.self.now.tokens c.in_ok-seen.seen) c.turns_of.ensures
    ∙ ap (found_by (turns_of c.args.tree.now c.args.self.now.node) c.args.self.now.tokens) seen)
    c.by_seen.ensures
