-- THE PROMISE ON WORKER COUNTS ON A PAGE: none that fit are better than those that `explain` writes. It is stated in the terms of the
-- libraries below; of this crate it names the program of a file (`Headline.antt`), `Promises`, and `World`, the contents before and after.
use Rattle.std.specs.Prelude.{◌≡◌, ℕ, ◌≤◌, Bool, List, ◌++◌, Ok, Option, Some, None}
use Rattle.clap.specs.Words.{Text}
use Rattle.p3l_io.specs.Change.{Change}
use Rattle.p3l_io.specs.Content.{Held}
use Rattle.p3l_skel.specs.declared.tree.Tree.{Tree}
use Rattle.p3l_skel.specs.Numbers.{Fits, procs}
use Rattle.p3l_check.specs.Resolving.{ResolvedTree}
use Rattle.p3l_cost.specs.declared.costs.Costs.{Costs}
use Rattle.p3l_cost.specs.File.{Says}
use Rattle.p3l_cost.specs.Standard.{standard_costs}
use Rattle.p3l_model.specs.Service.{service}
use Rattle.p3l_alloc.specs.Explanation.{allocation_text}
use Rattle.p3l_opts.specs.declared.command.Build.{Build}
use Rattle.p3l_opts.specs.declared.command.Command.TheVariants as command
use Rattle.p3l_opts.specs.Command as opts
use Rattle.p3l_report.specs.Status as status
use Rattle.p3l_program.specs.Headline.{HasOneProgram}
use Rattle.p3l_program.specs.Top.{Promises}
use Rattle.p3l_program.specs.World.{World}

-- THE COSTS of a program's tree: those that the file of this name says, and the standard costs where none is named
abbrev pub SaysCosts : Held → Option (List ℕ) → Tree → Costs → Type 0
SaysCosts held None tree cs = cs ≡ standard_costs tree
SaysCosts held (Some name) tree cs = (text : List ℕ) × (held name ≡ Some text) × Says tree text (Ok cs)

-- ITS COUNTS: where the output had taken some bytes, it has these and then the text of the best counts
pub record WritesBest (held : Held) (build : Build) (taken : List ℕ) (new : Option (List ℕ)) : Type 0 where
  pub r : ResolvedTree
  pub program : HasOneProgram held build.program r
  pub cs : Costs
  pub costs : SaysCosts held build.costs r.tree cs
  pub counts : List ℕ
  -- They are lawful, and need no more processes than there are processors.
  pub fit : Fits r.tree build.processors counts
  -- No others that fit have a smaller service time, and none that fit have an equal one with fewer processes.
  pub soonest : (others : List ℕ) → Fits r.tree build.processors others → service r.tree cs counts 0 ≤ service r.tree cs others 0
  pub fewest : (others : List ℕ) → Fits r.tree build.processors others → service r.tree cs others 0 ≡ service r.tree cs counts 0 → procs r.tree counts 0 ≤ procs r.tree others 0
  pub new_is : new ≡ Some (taken ++ allocation_text r.tree cs build.processors counts (procs r.tree counts 0) (service r.tree cs counts 0))

-- So it is wherever the words are a command `explain`, with or without a certificate, and its status is 0.
abbrev pub EveryExplanationIsTheBest : Type 0
EveryExplanationIsTheBest =
    (outside : Bool) (words : List Text) (w : World) (err : Change (List ℕ)) (k : ℕ) → Promises outside words w err k →
    (build : Build) (cert : Option (List ℕ)) → opts.Spells words (command.Explain build cert) → k ≡ status.done →
    (held : Held) (bytes taken : List ℕ) → w.files.old.content ≡ Some held → w.input.old.content ≡ Some bytes → w.output.old.content ≡ Some taken →
    WritesBest held build taken w.output.new.content
