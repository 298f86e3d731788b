-- Images of programs that are loaded, and the writing of one file.
use Rattle.std.proofs.Common.{ℕ, ◌≤◌, List, [], Option, None, refl, sym, subst, arith}
use Rattle.std.specs.declared.result.Result.TheVariants.{Ok, Err}
use Rattle.p3l_io.specs.Change.{Change}
use Rattle.p3l_io.specs.Content.{Held}
use Rattle.p3l_skel.specs.declared.tree.Tree.{Tree}
use Rattle.p3l_skel.specs.Counts.{HasLawfulCounts}
use Rattle.p3l_skel.specs.Numbers.{procs}
use Rattle.p3l_load.specs.Compiled.{AreCodesOf, IsImageText, image_of}
use Rattle.p3l_opts.specs.declared.command.Build.{Build}
use Rattle.p3l_report.specs.declared.verdict.Finish.TheVariants as finishes
use Rattle.p3l_report.specs.declared.verdict.Verdict.{Verdict}
use Rattle.p3l_report.specs.declared.verdict.Verdict.TheVariants as verdict
use Rattle.p3l_check.specs.Resolving.{ResolvedTree}
use Rattle.p3l_program.specs.declared.plan.Allotted.{Allotted}
use Rattle.p3l_program.specs.Compile.{IsImageOf}
use Rattle.p3l_program.specs.Load.{IsLoaded, IsNotLoaded}
use Rattle.p3l_program.specs.Saved.{IsFileExpected, SaveCause}
use Rattle.p3l_program.specs.Stage.{AllPass, Stage}
use Rattle.p3l_program.specs.Text.{IsNothing}
use Rattle.p3l_program.proofs.SavedSteps.{none_put, saving_expected, saving_failed, saving_refused, saving_unwritten}

module _ (files : Option Held) (build : Build) (r : ResolvedTree) (loaded : Allotted) (is : IsLoaded files build r loaded) where
  -- the codes are those of the program of the text
  pub coded : AreCodesOf loaded.program.tree loaded.program.codes
  coded = record {
    bytes = is.text;
    r = r;
    comes = record {
      program = is.comes.accepted.program;
      spelled = is.comes.accepted.spelled;
      keeps = is.comes.accepted.keeps;
      lawful = is.comes.compiled.lawful;
      bodies = is.comes.compiled.bodies;
    };
    tree_is = is.comes.compiled.tree_is;
    compiled = is.comes.compiled.codes;
  }

  -- the counts are lawful, and of few processes
  pub fit : HasLawfulCounts loaded.program.tree loaded.choice.counts.list
  fit = subst (λ (t : Tree). HasLawfulCounts t loaded.choice.counts.list) (sym is.comes.compiled.tree_is) is.allotted.chosen.optimal.fit.lawful

  pub few : build.processors ≤ 512 → procs loaded.program.tree loaded.choice.counts.list 0 ≤ 4096
  few small =
      let here = is.allotted.chosen.optimal.fit.few in
      let there = subst (λ (t : Tree). procs t loaded.choice.counts.list 0 ≤ build.processors) (sym is.comes.compiled.tree_is) here in
      omega (arith, there, small)

  -- the image of what is loaded is that of the program
  pub imaged : (bytes : List ℕ) → IsImageText (image_of loaded.program.tree loaded.choice.counts.list loaded.program.codes build.capacity) bytes → IsImageOf files build bytes
  imaged bytes text = record {
    r = r;
    cs = loaded.costs;
    counts = loaded.choice.counts.list;
    has = record { text = is.text; has = is.has; said = is.said; says = is.says; allotted = is.allotted };
    only = is.comes.only;
    codes = loaded.program.codes;
    compiled = is.comes.compiled.codes;
    is = subst (λ (t : Tree). IsImageText (image_of t loaded.choice.counts.list loaded.program.codes build.capacity) bytes) is.comes.compiled.tree_is text;
  }

module _ (files : Change Held) (stages : List Stage) (name : List ℕ) (IsBytes : List ℕ → Type 0) where
  -- stages that don't pass
  pub file_refused : (v : Verdict) → IsNotLoaded files stages v → IsFileExpected files stages name IsBytes v
  file_refused v h out still = saving_refused files out stages IsNothing name IsBytes v still h

  -- running out of memory before anything was written
  pub file_unwritten : IsFileExpected files stages name IsBytes verdict.NoMemory
  file_unwritten out still = saving_unwritten files out stages IsNothing name IsBytes still

  module _ (bytes : List ℕ) (passed : AllPass files stages) (of : IsBytes bytes) where
    -- the file could not be written
    pub file_failed : (v : Verdict) → SaveCause files name bytes (Err v) → IsFileExpected files stages name IsBytes v
    file_failed v h out still = saving_failed files out stages IsNothing name IsBytes [] bytes passed refl of v still h

    -- it was
    pub file_expected : SaveCause files name bytes (Ok tt) → IsFileExpected files stages name IsBytes (verdict.Ended finishes.Done None)
    file_expected h out still = saving_expected files out stages IsNothing name IsBytes [] bytes passed refl of (verdict.Ended finishes.Done None) h.0 h.1
        (refl, refl, none_put out still.same_content, still.same_faults)
