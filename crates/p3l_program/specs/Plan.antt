-- The way from a text to a network: the program that it spells and that keeps all rules, its costs, the
-- counts that are chosen for it, and the net of its tree under them.
use Rattle.std.specs.Prelude.{◌≡◌, ◌≢◌, ℕ, ◌*◌, List, [], Ok, Err, Option, ◌⊎◌, Some, None}
use Rattle.p3l_ast.specs.declared.position.Pos.{Pos}
use Rattle.p3l_ast.specs.declared.refusal.Fault.{Fault}
use Rattle.p3l_ast.specs.declared.refusal.SourceRefusal.{SourceRefusal}
use Rattle.p3l_ast.specs.declared.refusal.SourceRefusal.TheVariants as source
use Rattle.p3l_ast.specs.Tree.{ProgramTree}
use Rattle.p3l_grammar.specs.Grammar.{IsFirstFault, Spells}
use Rattle.p3l_io.specs.Content.{Held}
use Rattle.p3l_skel.specs.Lawful.{IsLawfulTree}
use Rattle.p3l_check.specs.Resolving.{ResolvedTree, resolved}
use Rattle.p3l_compile.specs.Leaves.{AreBodies, AreCodes, body_leaf}
use Rattle.p3l_skel.specs.declared.tree.Tree.{Tree}
use Rattle.p3l_cost.specs.declared.costs.Costs.{Costs}
use Rattle.p3l_cost.specs.declared.refusal.CostRefusal.{CostRefusal}
use Rattle.p3l_cost.specs.declared.refusal.CostRefusal.TheVariants as costs
use Rattle.p3l_cost.specs.File.{IsRead, Says}
use Rattle.p3l_cost.specs.Standard.{standard_costs}
use Rattle.p3l_model.specs.Optimal.{IsChosen}
use Rattle.p3l_alloc.specs.Chosen.{IsShort}
use Rattle.p3l_opts.specs.declared.command.Build.{Build}
use Rattle.p3l_skel.specs.Item.{item}
use Rattle.p3l_skel.specs.Numbers.{firings}
use Rattle.p3l_units.specs.Table.{leaf}
use Rattle.p3l_image.specs.declared.image.Image.{Image}
use Rattle.p3l_link.specs.Net.{linked_net}
use Rattle.p3l_load.specs.declared.loaded.Loaded.{Loaded}
use Rattle.p3l_load.specs.Load.{loaded_of}
use Rattle.p3l_firing.specs.declared.shot.Shot.{Shot}
use Rattle.p3l_resume.specs.declared.saved.Saved.{Saved}
use Rattle.p3l_resume_laws.specs.Linked.{ahead_of}
use Rattle.p3l_resume_laws.specs.Saved.{saved_state}
use Rattle.p3l_resume_laws.specs.Start.{tokens_saved}
use Rattle.p3l_run.specs.Network.{Network, network, network_named, resumed}
use Rattle.p3l_run.specs.Start.{Resumption}
use Rattle.p3l_scan.specs.declared.plan.ScanPlan.{ScanPlan}
use Rattle.p3l_scan.specs.declared.refusal.ScanRefusal.{ScanRefusal}
use Rattle.p3l_scan.specs.Plan.{IsScannable}
use Rattle.p3l_scan.specs.Planned.{IsPlanOf, IsUnscannable}
use Rattle.p3l_scan.specs.Step.{step_leaf}
use Rattle.p3l_program.specs.declared.plan.Accepted.{Accepted}
use Rattle.p3l_program.specs.File.{HasText, text_limit}
use Rattle.p3l_program.specs.Image.{IsRunnableImage, image_limit}
use Rattle.p3l_program.specs.Origin.{Origin, built, continued, imaged, scanned}
use Rattle.p3l_program.specs.Snapshot.{IsResumable, snapshot_limit, units_in}
use Rattle.p3l_base.specs.Memory.{Refused}

-- the text spells a program that keeps all rules, with this tree and these bodies
pub record IsAccepted (text : List ℕ) (r : ResolvedTree) : Type 0 where
  pub program : ProgramTree
  pub spelled : Spells text program
  pub keeps : resolved program ≡ Ok r

-- the text spells a program that breaks a rule, the first of them at this place
pub record BreaksRule (text : List ℕ) (fault : Fault) (pos : Pos) : Type 0 where
  pub program : ProgramTree
  pub spelled : Spells text program
  pub breaks : resolved program ≡ Err (source.At fault pos)

-- the text is not accepted, for this first fault
pub record IsNotAccepted (text : List ℕ) (fault : Fault) (pos : Pos) : Type 0 where
  pub why : IsFirstFault text fault pos ⊎ BreaksRule text fault pos
  pub never : (r : ResolvedTree) → IsAccepted text r → ⊥

-- the file of this name has such a program
pub record HasTree (files : Option Held) (name : List ℕ) (r : ResolvedTree) : Type 0 where
  pub text : List ℕ
  pub has : HasText files text_limit name text
  pub accepted : IsAccepted text r

-- it has none, for this fault
pub record HasNoTree (files : Option Held) (name : List ℕ) (fault : Fault) (pos : Pos) : Type 0 where
  pub text : List ℕ
  pub has : HasText files text_limit name text
  pub refused : IsNotAccepted text fault pos

-- an accepted program's tree, and the codes of its bodies
pub record IsCompiled (r : ResolvedTree) (accepted : Accepted) : Type 0 where
  pub tree_is : accepted.tree ≡ r.tree
  pub lawful : IsLawfulTree r.tree
  pub bodies : AreBodies r.tree r.seqs
  pub codes : AreCodes r.seqs accepted.codes

-- the program that an accepted text comes to, and no other
pub record ComesTo (text : List ℕ) (r : ResolvedTree) (program : Accepted) : Type 0 where
  pub accepted : IsAccepted text r
  pub only : (other : ResolvedTree) → IsAccepted text other → other ≡ r
  pub compiled : IsCompiled r program

-- a text is refused for a fault, or memory ran out
abbrev pub IsTextRefused : List ℕ → SourceRefusal → Type 0
IsTextRefused text (source.At fault pos) = IsNotAccepted text fault pos
IsTextRefused text source.NoMemory = Refused

-- the text of costs, where a file of costs is named
abbrev pub HasCostText : Option Held → Option (List ℕ) → Option (List ℕ) → Type 0
HasCostText files None None = Unit {0}
HasCostText files None (Some text) = ⊥
HasCostText files (Some name) None = ⊥
HasCostText files (Some name) (Some text) = HasText files text_limit name text

-- the costs that a text says, and without one the standard costs
abbrev pub AreSaid : Tree → Option (List ℕ) → Costs → Type 0
AreSaid tree None cs = cs ≡ standard_costs tree
AreSaid tree (Some text) cs = Says tree text (Ok cs)

-- an accepted program with its costs
pub record IsPriced (text : List ℕ) (said : Option (List ℕ)) (r : ResolvedTree) (cs : Costs) : Type 0 where
  pub accepted : IsAccepted text r
  pub costs : AreSaid r.tree said cs

-- and with the counts that are chosen for this number of processors
pub record IsAllotted (text : List ℕ) (said : Option (List ℕ)) (processors : ℕ) (r : ResolvedTree) (cs : Costs) (counts : List ℕ) : Type 0 where
  pub priced : IsPriced text said r cs
  pub chosen : IsChosen r.tree cs processors counts

-- a text says no costs of a tree, for this reason
pub record IsUnsaid (tree : Tree) (said : List ℕ) (why : CostRefusal) : Type 0 where
  pub read : IsRead tree said (Err why)
  pub named : why ≢ costs.NoMemory

-- nor of the program of another
pub record IsUnpriced (text said : List ℕ) (why : CostRefusal) : Type 0 where
  pub r : ResolvedTree
  pub accepted : IsAccepted text r
  pub refused : IsUnsaid r.tree said why
  pub never : (other : ResolvedTree) (cs : Costs) → IsPriced text (Some said) other cs → ⊥

-- a text spells one program that keeps all rules, which can't be scanned in this number of segments, for this reason
pub record IsUnscanned (text : List ℕ) (segments : ℕ) (why : ScanRefusal) : Type 0 where
  pub r : ResolvedTree
  pub accepted : IsAccepted text r
  pub only : (other : ResolvedTree) → IsAccepted text other → other ≡ r
  pub refused : IsUnscannable r.tree segments why

-- no counts of the program fit this number of processors, and the least number that some need
pub record IsOverfull (text : List ℕ) (said : Option (List ℕ)) (processors need : ℕ) : Type 0 where
  pub r : ResolvedTree
  pub cs : Costs
  pub priced : IsPriced text said r cs
  pub short : IsShort r.tree processors need
  pub never : (other : ResolvedTree) (others : Costs) (counts : List ℕ) → IsAllotted text said processors other others counts → ⊥

-- the files of these names have a program and its costs
pub record HasCosts (files : Option Held) (program : List ℕ) (costs_file : Option (List ℕ)) (r : ResolvedTree) (cs : Costs) : Type 0 where
  pub text : List ℕ
  pub has : HasText files text_limit program text
  pub said : Option (List ℕ)
  pub says : HasCostText files costs_file said
  pub priced : IsPriced text said r cs

pub record HasNoCosts (files : Option Held) (program costs_file : List ℕ) (why : CostRefusal) : Type 0 where
  pub text : List ℕ
  pub has : HasText files text_limit program text
  pub said : List ℕ
  pub says : HasText files text_limit costs_file said
  pub refused : IsUnpriced text said why

-- and the counts that are chosen for them
pub record HasCounts (files : Option Held) (build : Build) (r : ResolvedTree) (cs : Costs) (counts : List ℕ) : Type 0 where
  pub text : List ℕ
  pub has : HasText files text_limit build.program text
  pub said : Option (List ℕ)
  pub says : HasCostText files build.costs said
  pub allotted : IsAllotted text said build.processors r cs counts

pub record HasTooFew (files : Option Held) (build : Build) (need : ℕ) : Type 0 where
  pub text : List ℕ
  pub has : HasText files text_limit build.program text
  pub said : Option (List ℕ)
  pub says : HasCostText files build.costs said
  pub refused : IsOverfull text said build.processors need

-- the file of this name has a program that can be scanned in this number of segments
pub record HasScan (files : Option Held) (name : List ℕ) (segments : ℕ) (r : ResolvedTree) : Type 0 where
  pub has : HasTree files name r
  pub can : IsScannable r.tree segments

-- it has one that can't, for this reason
pub record HasNoScan (files : Option Held) (name : List ℕ) (segments : ℕ) (why : ScanRefusal) : Type 0 where
  pub text : List ℕ
  pub has : HasText files text_limit name text
  pub refused : IsUnscanned text segments why

-- the network of an accepted program under these counts, whose channels hold this number of tokens
abbrev pub network_of : ResolvedTree → List ℕ → (capacity : ℕ) → Network
network_of r counts capacity = network r.tree (body_leaf r.tree r.seqs) (linked_net r.tree counts capacity) (firings r.tree counts)

-- the network that was loaded from an image, whose `seq` modules do what its codes do
abbrev pub network_in : Loaded → Network
network_in loaded = network loaded.tree (leaf (record { tree = loaded.tree; codes = loaded.codes })) loaded.net (firings loaded.tree loaded.counts.list)

-- a shot of a loaded network, with the outcomes to come of the tokens in its net and of the item in its inbox, and a
-- bound on the firings of the net for those tokens
abbrev pub resumption_of : Loaded → Shot → Resumption
resumption_of loaded shot = record {
  shot = shot;
  ahead = ahead_of (units_in loaded) loaded.counts.list (saved_state (units_in loaded) loaded.counts.list loaded.cap shot []);
  owed = firings loaded.tree loaded.counts.list * tokens_saved (units_in loaded) loaded.counts.list loaded.cap shot;
}

-- the network that was loaded, whose runs go on from what was saved of another
abbrev pub continued_network : Loaded → Shot → Network
continued_network loaded shot = resumed (resumption_of loaded shot) (network_in loaded)

-- the network of the scan of an accepted program's root by a plan, whose channels hold this number of tokens: its steps run the operator of
-- the program, whose modules name the traps
abbrev pub scan_network : ResolvedTree → ScanPlan → (capacity : ℕ) → Network
scan_network r plan capacity =
    network_named r.tree plan.tree (step_leaf plan.elem (item r.tree (body_leaf r.tree r.seqs) plan.op)) (linked_net plan.tree plan.counts.list capacity)
    (firings plan.tree plan.counts.list)

-- the texts of the files that are run: of a program, and of its costs if a file of costs is named; or the bytes of an image or
-- of a snapshot
pub record Texts : Type 0 where
  pub text : List ℕ
  pub said : Option (List ℕ)

abbrev pub HaveTexts : Option Held → Origin → Texts → Type 0
HaveTexts files (built build) texts = HasText files text_limit build.program texts.text × HasCostText files build.costs texts.said
HaveTexts files (imaged name) texts = HasText files image_limit name texts.text × (texts.said ≡ None)
HaveTexts files (scanned name segments capacity) texts = HasText files text_limit name texts.text × (texts.said ≡ None)
HaveTexts files (continued name) texts = HasText files snapshot_limit name texts.text × (texts.said ≡ None)

-- the network of an accepted program with the counts that are chosen for it
pub record IsBuilt (build : Build) (texts : Texts) (n : Network) : Type 0 where
  pub r : ResolvedTree
  pub cs : Costs
  pub counts : List ℕ
  pub allotted : IsAllotted texts.text texts.said build.processors r cs counts
  pub network_is : n ≡ network_of r counts build.capacity

-- the network of an image that can be run
pub record IsImaged (texts : Texts) (n : Network) : Type 0 where
  pub i : Image
  pub runs : IsRunnableImage i texts.text
  pub network_is : n ≡ network_in (loaded_of i)

-- the network of the scan of an accepted program in this number of segments, whose root can be scanned so
pub record IsScanned (segments capacity : ℕ) (texts : Texts) (n : Network) : Type 0 where
  pub r : ResolvedTree
  pub accepted : IsAccepted texts.text r
  pub plan : ScanPlan
  pub planned : IsPlanOf r.tree segments plan
  pub network_is : n ≡ scan_network r plan capacity

-- the network of a snapshot that can be resumed: that of its image, whose runs go on from what was saved
pub record IsContinued (texts : Texts) (n : Network) : Type 0 where
  pub i : Image
  pub saved : Saved
  pub resumes : IsResumable i saved texts.text
  pub network_is : n ≡ continued_network (loaded_of i) saved.shot

-- the network of what is run
abbrev pub IsNetworkOf : Origin → Texts → Network → Type 0
IsNetworkOf (built build) texts n = IsBuilt build texts n
IsNetworkOf (imaged name) texts n = IsImaged texts n
IsNetworkOf (scanned name segments capacity) texts n = IsScanned segments capacity texts n
IsNetworkOf (continued name) texts n = IsContinued texts n

-- the network that files and words request
pub record HasNetwork (files : Option Held) (origin : Origin) (n : Network) : Type 0 where
  pub texts : Texts
  pub have : HaveTexts files origin texts
  pub is : IsNetworkOf origin texts n
