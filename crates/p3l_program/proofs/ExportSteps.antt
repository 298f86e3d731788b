-- From a program that is loaded to the text in C of it.
use Rattle.std.proofs.Common.{◌≡◌, ℕ, ◌≤◌, List, Option, Some, None, Result, IfOk, sym, ◌∙◌, subst, arith, inl, inr, ◌⊎◌}
use Rattle.std.specs.declared.result.Result.TheVariants.{Ok, Err}
use Rattle.p3l_ast.specs.declared.refusal.SourceRefusal.{SourceRefusal}
use Rattle.p3l_ast.specs.declared.refusal.SourceRefusal.TheVariants as source
use Rattle.p3l_ast.specs.Tree.{ProgramTree, program_tree}
use Rattle.p3l_base.specs.Memory.{IfGiven, Refused}
use Rattle.p3l_io.specs.Content.{Held}
use Rattle.p3l_skel.specs.declared.tree.Tree.{Tree}
use Rattle.p3l_skel.specs.Counts.{HasLawfulCounts}
use Rattle.p3l_skel.specs.Lawful.{IsLawfulTree}
use Rattle.p3l_skel.specs.Numbers.{procs}
use Rattle.p3l_c_print.specs.Bodies.{bodies_text}
use Rattle.p3l_check.specs.Many.{GivesUnlessMany}
use Rattle.p3l_check.specs.Resolving.{ResolvedTree, resolved}
use Rattle.p3l_export.specs.declared.engine.TheConstants.{ENGINE, HEAD}
use Rattle.p3l_export.specs.Export.{IsCapacity, IsExported}
use Rattle.p3l_opts.specs.declared.command.Exported.{Exported}
use Rattle.p3l_opts.specs.Command.{HasChoice}
use Rattle.p3l_rewrite.specs.Serving.{MayBeMany}
use Rattle.p3l_program.specs.declared.source.Priced.{Priced}
use Rattle.p3l_program.specs.Export.{IsExportOf, IsProgramText, MayBeExported, build_of}
use Rattle.p3l_program.specs.Source.{LoadsPriced}

-- a capacity that words spell is one that a program may be exported under
pub choice_within : (text : Option (List ℕ)) (capacity : Option ℕ) → HasChoice text capacity → IsCapacity capacity
choice_within text None has = tt
choice_within None (Some capacity) has = absurd cc
choice_within (Some text) (Some capacity) has = (has.least, has.most_is)

-- a program that keeps all rules is refused by them only where memory ran out, or where it may have too many entries
pub not_kept : (program : ProgramTree) (r : ResolvedTree) (e : SourceRefusal) → resolved program ≡ Ok r → GivesUnlessMany {A = ResolvedTree} program.entries (Err e) (resolved program) →
    Refused ⊎ MayBeMany program
not_kept program r (source.At fault pos) keeps breaks = absurd (let other = sym keeps ∙ breaks in cc)
not_kept program r source.NoMemory keeps (inl refused) = inl refused
not_kept program r source.NoMemory keeps (inr many) = inr (omega (arith, many))

-- the text of a program with the bodies that it is resolved to
pub text_given : {E : Type 0} (priced : Priced) (capacity : Option ℕ) (r : ResolvedTree) (bodies : List ℕ) (result : Result (List ℕ) E) → resolved (program_tree priced.program) ≡ Ok r →
    bodies ≡ bodies_text r.tree r.seqs → IfGiven result (IsExported priced.tree priced.counts.list priced.costs capacity HEAD.now bodies ENGINE.now) → IfOk result (IsProgramText priced capacity)
text_given priced capacity r bodies (Ok text) keeps are is = record {
  r = r;
  keeps = keeps;
  text_is = subst (λ b. IsExported priced.tree priced.counts.list priced.costs capacity HEAD.now b ENGINE.now text) are is;
}
text_given priced capacity r bodies (Err e) keeps are is = tt

module _ (files : Option Held) (exported : Exported) (priced : Priced) (loads : LoadsPriced files (build_of exported) priced) where
  -- a loaded program can be exported
  pub may_be : exported.processors ≤ 512 → MayBeExported priced
  may_be few =
      let here = loads.has.allotted.chosen.optimal.fit in
      let there = subst (λ (t : Tree). procs t priced.counts.list 0 ≤ exported.processors) (sym loads.tree_is) here.few in record {
        r = loads.r;
        keeps = subst (λ program. resolved program ≡ Ok loads.r) loads.program_is loads.has.allotted.priced.accepted.keeps;
        lawful = subst IsLawfulTree (sym loads.tree_is) loads.lawful;
        fit = subst (λ (t : Tree). HasLawfulCounts t priced.counts.list) (sym loads.tree_is) here.lawful;
        few = omega (arith, there, few);
      }

  -- and its text is that of the program of the files
  pub program_exported : (text : List ℕ) → IsProgramText priced exported.capacity text → IsExportOf files exported text
  program_exported text is =
      let keeps : resolved (program_tree priced.program) ≡ Ok loads.r = subst (λ program. resolved program ≡ Ok loads.r) loads.program_is loads.has.allotted.priced.accepted.keeps in
      let two = sym is.keeps ∙ keeps in
      let same : is.r ≡ loads.r = cc in record {
        r = loads.r;
        cs = priced.costs;
        counts = priced.counts.list;
        has = loads.has;
        only = loads.only;
        text_is =
            subst (λ (r : ResolvedTree). IsExported loads.r.tree priced.counts.list priced.costs exported.capacity HEAD.now (bodies_text r.tree r.seqs) ENGINE.now text) same
            (subst (λ (t : Tree). IsExported t priced.counts.list priced.costs exported.capacity HEAD.now (bodies_text is.r.tree is.r.seqs) ENGINE.now text) loads.tree_is is.text_is);
      }
