-- Values loaded from files, and the reasons why none is.
use Rattle.std.specs.Prelude.{◌≡◌, ℕ, ◌≤◌, List, Option, Some, None, ◌⊎◌}
use Rattle.p3l_io.specs.Change.{Change, HasFailed, HasSameFaults}
use Rattle.p3l_io.specs.Content.{Held}
use Rattle.p3l_skel.specs.declared.tree.Tree.{Tree}
use Rattle.p3l_cost.specs.declared.costs.Costs.{Costs}
use Rattle.p3l_cost.specs.Costs.{AreCostsOf}
use Rattle.p3l_alloc.specs.Chosen.{IsShort}
use Rattle.p3l_model.specs.Service.{service}
use Rattle.p3l_skel.specs.Counts.{HasLawfulCounts}
use Rattle.p3l_skel.specs.Numbers.{procs}
use Rattle.p3l_opts.specs.declared.command.Build.{Build}
use Rattle.p3l_run.specs.Network.{Network}
use Rattle.p3l_report.specs.declared.verdict.Refusal.{Refusal}
use Rattle.p3l_report.specs.declared.verdict.Refusal.TheVariants as refusal
use Rattle.p3l_report.specs.declared.verdict.Verdict.{Verdict}
use Rattle.p3l_report.specs.declared.verdict.Verdict.TheVariants as verdict
use Rattle.p3l_check.specs.Resolving.{ResolvedTree}
use Rattle.p3l_program.specs.declared.plan.Accepted.{Accepted}
use Rattle.p3l_program.specs.declared.file.FileRefusal.{FileRefusal}
use Rattle.p3l_program.specs.declared.file.FileRefusal.TheVariants as file
use Rattle.p3l_program.specs.declared.plan.Allotted.{Allotted}
use Rattle.p3l_program.specs.Origin.{Origin}
use Rattle.p3l_program.specs.Plan.{AreSaid, ComesTo, HasCostText, HaveTexts, IsAllotted, IsCompiled, IsNetworkOf, IsUnsaid, Texts}
use Rattle.p3l_program.specs.File.{HasText, IsTooLong, text_limit}
use Rattle.p3l_program.specs.Stage.{FilesCause, IsRefusedBy, Refuses, Stage, readable, AllPass, origin_stages}

-- why a file gives no text
abbrev pub IsUnreadable : Change Held → ℕ → List ℕ → FileRefusal → Type 0
IsUnreadable files limit name (file.Fault named) = (named ≡ name) × HasFailed files name
IsUnreadable files limit name (file.TooLong named) = (named ≡ name) × IsTooLong files.old.content limit name × HasSameFaults files
IsUnreadable files limit name file.NoMemory = HasSameFaults files

-- the verdicts of these
abbrev pub file_verdict : FileRefusal → Verdict
file_verdict (file.Fault name) = verdict.Refused (refusal.FileFault name)
file_verdict (file.TooLong name) = verdict.Refused (refusal.FileTooLong name)
file_verdict file.NoMemory = verdict.NoMemory

-- the stages before a command's work don't pass: one refuses, or memory ran out
abbrev pub IsNotLoaded : Change Held → List Stage → Verdict → Type 0
IsNotLoaded files stages (verdict.Refused refused) = IsRefusedBy files stages refused × FilesCause refused files
IsNotLoaded files stages verdict.NoMemory = HasSameFaults files
IsNotLoaded files stages v = ⊥

-- the program that a text comes to
pub record AcceptsText (text : List ℕ) (accepted : Accepted) : Type 0 where
  pub r : ResolvedTree
  pub comes : ComesTo text r accepted

-- the program of a file, with its codes
pub record IsProgram (files : Option Held) (name : List ℕ) (r : ResolvedTree) (accepted : Accepted) : Type 0 where
  pub text : List ℕ
  pub has : HasText files text_limit name text
  pub comes : ComesTo text r accepted

pub record LoadsProgram (files : Option Held) (name : List ℕ) (accepted : Accepted) : Type 0 where
  pub r : ResolvedTree
  pub is : IsProgram files name r accepted

-- the costs of a tree, by the file that is named for them
pub record LoadsCosts (files : Option Held) (costs_file : Option (List ℕ)) (tree : Tree) (cs : Costs) : Type 0 where
  pub said : Option (List ℕ)
  pub says : HasCostText files costs_file said
  pub costs : AreSaid tree said cs
  pub lawful : AreCostsOf tree cs

-- a text says no costs of a tree
abbrev pub IsNoCosts : Tree → List ℕ → Refusal → Type 0
IsNoCosts tree said (refusal.Costs why) = IsUnsaid tree said why
IsNoCosts tree said refused = ⊥

-- why no costs are loaded
pub record HasUnsaidCosts (files : Change Held) (name : List ℕ) (tree : Tree) (refused : Refusal) : Type 0 where
  pub said : List ℕ
  pub has : HasText files.old.content text_limit name said
  pub no_costs : IsNoCosts tree said refused
  pub same_faults : HasSameFaults files

abbrev pub IsCostless : Change Held → Option (List ℕ) → Tree → Verdict → Type 0
IsCostless files None tree (verdict.Refused refused) = ⊥
IsCostless files (Some name) tree (verdict.Refused refused) =
    (Refuses files (readable text_limit name) refused × FilesCause refused files) ⊎ HasUnsaidCosts files name tree refused
IsCostless files costs tree verdict.NoMemory = HasSameFaults files
IsCostless files costs tree v = ⊥

-- no counts of a tree, whose costs are loaded, fit this number of processors
pub record IsUnfit (files : Change Held) (costs_file : Option (List ℕ)) (tree : Tree) (processors : ℕ) (v : Verdict) : Type 0 where
  pub need : ℕ
  pub verdict_is : v ≡ verdict.Refused (refusal.TooFew need)
  pub cs : Costs
  pub loads : LoadsCosts files.old.content costs_file tree cs
  pub short : IsShort tree processors need
  pub same_faults : HasSameFaults files

-- why no counts are chosen for a tree
abbrev pub IsUnchosen : Change Held → Option (List ℕ) → Tree → (processors : ℕ) → Verdict → Type 0
IsUnchosen files costs tree processors verdict.NoMemory = HasSameFaults files
IsUnchosen files costs tree processors v = IsCostless files costs tree v ⊎ IsUnfit files costs tree processors v

-- a program with its costs and the counts that are chosen for it
pub record IsLoaded (files : Option Held) (build : Build) (r : ResolvedTree) (loaded : Allotted) : Type 0 where
  pub text : List ℕ
  pub has : HasText files text_limit build.program text
  pub comes : ComesTo text r loaded.program
  pub said : Option (List ℕ)
  pub says : HasCostText files build.costs said
  pub allotted : IsAllotted text said build.processors r loaded.costs loaded.choice.counts.list
  pub lawful : AreCostsOf r.tree loaded.costs
  pub service_is : loaded.choice.service ≡ service r.tree loaded.costs loaded.choice.counts.list 0
  pub used_is : loaded.choice.used ≡ procs r.tree loaded.choice.counts.list 0

pub record Loads (files : Option Held) (build : Build) (loaded : Allotted) : Type 0 where
  pub r : ResolvedTree
  pub is : IsLoaded files build r loaded

-- a program can be run with the counts that are chosen
pub record IsReady (loaded : Allotted) : Type 0 where
  pub r : ResolvedTree
  pub compiled : IsCompiled r loaded.program
  pub fit : HasLawfulCounts r.tree loaded.choice.counts.list
  pub few : procs r.tree loaded.choice.counts.list 0 ≤ 512

-- the network that words and files request, which is the only one; all that comes before it passes
pub record LoadsNetwork (known : Option Held) (origin : Origin) (n : Network) : Type 0 where
  pub texts : Texts
  pub have : HaveTexts known origin texts
  pub is : IsNetworkOf origin texts n
  pub only : (other : Network) → IsNetworkOf origin texts other → other ≡ n
  pub passed : (files : Change Held) → files.old.content ≡ known → AllPass files (origin_stages origin)
