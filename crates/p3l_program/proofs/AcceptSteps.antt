-- From what the reader and the rules say of a text to whether it is accepted.
use Rattle.std.proofs.Common.{◌≡◌, ℕ, ◌≤◌, List, length, sym, ap, ◌∙◌, inl, inr}
use Rattle.std.specs.declared.result.Result.TheVariants.{Ok, Err}
use Rattle.p3l_ast.specs.declared.refusal.SourceRefusal.{SourceRefusal}
use Rattle.p3l_ast.specs.declared.refusal.SourceRefusal.TheVariants as source
use Rattle.p3l_ast.specs.Tree.{ProgramTree}
use Rattle.p3l_grammar.specs.Grammar.{Spells}
use Rattle.p3l_reader.specs.Faults.{IsOnly, IsRefusal}
use Rattle.p3l_types.specs.Verdict.{Gives}
use Rattle.p3l_skel.specs.Lawful.{IsLawfulTree}
use Rattle.p3l_check.specs.Many.{GivesUnlessMany}
use Rattle.p3l_check.specs.Resolving.{ResolvedTree, resolved}
use Rattle.p3l_body_laws.proofs.Few.{gives_few}
use Rattle.p3l_body_laws.specs.Served.{ResolvedServe}
use Rattle.p3l_compile.specs.Leaves.{AreBodies, AreCodes}
use Rattle.p3l_program.specs.declared.plan.Accepted.{Accepted}
use Rattle.p3l_program.specs.Plan.{IsTextRefused}
use Rattle.p3l_program.specs.Load.{AcceptsText}

-- a text that is refused by the reader is not accepted
pub not_read : (text : List ℕ) (r : SourceRefusal) → length text ≤ 1048576 → ((program : ProgramTree) → Spells text program → IsOnly program (Err r)) → IsRefusal text r → IsTextRefused text r
not_read text (source.At fault pos) within only first = record { why = inl (first within); never = λ r a. only a.program a.spelled }
not_read text source.NoMemory within only first = first

module _ (text : List ℕ) (program : ProgramTree) (spelled : Spells text program) (only : (other : ProgramTree) → Spells text other → program ≡ other) where
  -- nor is one whose program breaks a rule
  pub not_kept : (e : SourceRefusal) → Gives {A = ResolvedTree} (Err e) (resolved program) → IsTextRefused text e
  not_kept (source.At fault pos) breaks = record {
    why = inr (record { program = program; spelled = spelled; breaks = breaks });
    never = λ r a. (let same = only a.program a.spelled in let other = ap resolved same ∙ a.keeps in absurd cc);
  }
  not_kept source.NoMemory breaks = breaks

  -- it has too few entries to be refused for their number
  pub not_resolved : (e : SourceRefusal) → length text ≤ 1048576 → GivesUnlessMany {A = ResolvedTree} program.entries (Err e) (resolved program) → IsTextRefused text e
  not_resolved e within answer = not_kept e (gives_few text program (Err e) (resolved program) spelled within answer)

  -- the bodies of one whose program keeps all rules are those of its tree
  pub bodies : ResolvedServe → (r : ResolvedTree) → length text ≤ 1048576 → resolved program ≡ Ok r → IsLawfulTree r.tree → AreBodies r.tree r.seqs
  bodies serve r within keeps lawful = serve text program r (record { short = within; spelled = spelled }) keeps lawful

  -- one whose program keeps all rules is
  pub kept : (r : ResolvedTree) (accepted : Accepted) → resolved program ≡ Ok r → accepted.tree ≡ r.tree → IsLawfulTree r.tree → AreBodies r.tree r.seqs → AreCodes r.seqs accepted.codes → AcceptsText text accepted
  kept r accepted keeps tree_is lawful bodies codes = record {
    r = r;
    comes = record {
      accepted = record { program = program; spelled = spelled; keeps = keeps };
      only = λ other a. (let same = only a.program a.spelled in let two = ap resolved same ∙ a.keeps in let one : r ≡ other = cc in sym one);
      compiled = record { tree_is = tree_is; lawful = lawful; bodies = bodies; codes = codes };
    };
  }
