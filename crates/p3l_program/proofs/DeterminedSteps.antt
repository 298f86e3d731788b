-- A text spells one program, and the words and the files determine its network.
use Rattle.std.proofs.Common.{◌≡◌, List, ℕ, sym, ap, ◌∙◌, subst}
use Rattle.p3l_ast.specs.Tree.{ProgramTree}
use Rattle.p3l_lexer.proofs.Unique.{tokens_same}
use Rattle.p3l_grammar.specs.Grammar.{Spells}
use Rattle.p3l_grammar.proofs.Exact.{all_of_derives}
use Rattle.p3l_check.specs.Resolving.{ResolvedTree, resolved}
use Rattle.p3l_program.specs.Determined.{EveryProgramHasOneNetwork}
use Rattle.p3l_program.specs.File.{text_limit}
use Rattle.p3l_program.specs.Plan.{IsAccepted, IsAllotted, network_of}
use Rattle.p3l_program.proofs.AlikeSteps.{costs_once, held_once}
use Rattle.p3l_program.proofs.OnceSteps.{allotted_once}

spelled_once : (text : List ℕ) (p q : ProgramTree) → Spells text p → Spells text q → p ≡ q
spelled_once text p q a b =
    let tokens : a.tokens ≡ b.tokens = tokens_same text a.tokens b.tokens a.are_tokens b.are_tokens in
    let one = all_of_derives a.tokens p.entries a.derives in
    let two = all_of_derives b.tokens q.entries b.derives in
    let entries : p.entries ≡ q.entries = cc in
    let end : p.end ≡ q.end = a.end_is ∙ sym b.end_is in
    λ i. record { entries = entries i; end = end i }

accepted_once : (text : List ℕ) (r other : ResolvedTree) → IsAccepted text r → IsAccepted text other → other ≡ r
accepted_once text r other a b =
    let one = a.keeps in
    let two = ap resolved (spelled_once text a.program b.program a.spelled b.spelled) ∙ b.keeps in
    cc

pub one_network : EveryProgramHasOneNetwork
one_network files held build n other h there g =
    let text = held_once held text_limit build.program g.texts.text h.texts.text g.have.0 there.0 in
    let said = costs_once held build.costs g.texts.said h.texts.said g.have.1 there.1 in
    let here = subst (λ s. IsAllotted h.texts.text s build.processors g.is.r g.is.cs g.is.counts) said
    (subst (λ t. IsAllotted t g.texts.said build.processors g.is.r g.is.cs g.is.counts) text g.is.allotted) in
    let same = allotted_once h.texts.text h.texts.said build.processors h.is.r g.is.r h.is.cs g.is.cs h.is.counts g.is.counts
    (λ x a. accepted_once h.texts.text h.is.r x h.is.allotted.priced.accepted a) h.is.allotted here in
    g.is.network_is
    ∙ (ap (λ r. network_of r g.is.counts build.capacity) same.0
    ∙ (ap (λ c. network_of h.is.r c build.capacity) same.1 ∙ sym h.is.network_is))
