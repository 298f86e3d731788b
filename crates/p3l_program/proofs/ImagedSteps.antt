-- A program that was loaded has the network of its image, which can be written and read again.
use Rattle.std.proofs.Common.{◌≡◌, ℕ, ◌≤◌, List, Option, refl, sym, ap, ◌∙◌, subst, arith}
use Rattle.std.specs.List.{All}
use Rattle.p3l_code.specs.declared.instr.Code.{Code}
use Rattle.p3l_code.specs.Safe.{IsSafe}
use Rattle.p3l_image.specs.declared.image.Image.{Image}
use Rattle.p3l_io.specs.Content.{Held}
use Rattle.p3l_link.specs.Net.{linked_net}
use Rattle.p3l_load.specs.declared.loaded.Loaded.{Loaded as LoadedImage}
use Rattle.p3l_load.specs.Compiled.{AreCodesOf, EveryCompiledImageCanBeRun, EveryModuleHasAName, IsImageText, image_of}
use Rattle.p3l_load.specs.Load.{loaded_of}
use Rattle.p3l_load.specs.Written.{EveryRunnableImageCanBeWritten, HasAllOperands, HasRescueInRange}
use Rattle.p3l_load.proofs.Runnable.{IsMade, made}
use Rattle.p3l_opts.specs.declared.command.Build.{Build}
use Rattle.p3l_skel.specs.declared.tree.Tree.{Tree}
use Rattle.p3l_skel.specs.declared.tree.ModuleInfo.{ModuleInfo}
use Rattle.p3l_skel.specs.Counts.{HasLawfulCounts}
use Rattle.p3l_skel.specs.Numbers.{procs}
use Rattle.p3l_check.specs.Resolving.{ResolvedTree}
use Rattle.p3l_program.specs.declared.imaged.Imaged.{Imaged}
use Rattle.p3l_program.specs.declared.plan.Allotted.{Allotted}
use Rattle.p3l_program.specs.Load.{IsLoaded, IsReady}
use Rattle.p3l_program.specs.Plan.{network_in, network_of}
use Rattle.p3l_program.specs.SaveState.{HasImaged, IsImagedAs, LoadsImaged}
use Rattle.p3l_program.proofs.OnceSteps.{program_network}
use Rattle.p3l_program.proofs.SoundSteps.{linked_network}

-- the image of a program that keeps the rules can be run, and be written
module _ (named : EveryModuleHasAName) (runs : EveryCompiledImageCanBeRun) (fits : EveryRunnableImageCanBeWritten) (tree : Tree) (codes : List Code) (counts : List ℕ) (capacity : ℕ) (own : AreCodesOf tree codes) where
  pub made_so : (image : Image) → image ≡ image_of tree counts codes capacity → All IsSafe image.codes → (infos : List ModuleInfo) → infos ≡ image.tree.modules → All HasRescueInRange infos →
      (others : List Code) → others ≡ image.codes → All HasAllOperands others → HasLawfulCounts tree counts → procs tree counts 0 ≤ 4096 → 1 ≤ capacity → capacity ≤ 1024 → IsMade (image_of tree counts codes capacity)
  made_so image same safe infos infos_are rescues others others_are operands lawful small some few =
      let codes_are = ap (λ (i : Image). i.codes) same in
      made named runs fits tree codes counts capacity own (subst (All IsSafe) codes_are safe)
      (subst (λ (i : Image). All HasRescueInRange i.tree.modules) same (subst (All HasRescueInRange) infos_are rescues))
      (subst (All HasAllOperands) (others_are ∙ codes_are) operands) lawful small some few

module _ (files : Option Held) (build : Build) (r : ResolvedTree) (loaded : Allotted) (is : IsLoaded files build r loaded) (small : build.processors ≤ 512) (room : 1 ≤ build.capacity)
    (imaged : Imaged) (whole : IsImagedAs loaded build.capacity imaged) where
  can_run : IsReady loaded
  can_run = record {
    r = r;
    compiled = is.comes.compiled;
    fit = is.allotted.chosen.optimal.fit.lawful;
    few = (let a = is.allotted.chosen.optimal.fit.few in omega (arith, a, small));
  }

  network_is : network_in imaged.network ≡ network_of r loaded.choice.counts.list build.capacity
  network_is =
      subst (λ l. network_in l ≡ network_of r loaded.choice.counts.list build.capacity) (sym whole.network_is)
      (linked_network loaded build.capacity can_run room (linked_net loaded.program.tree loaded.choice.counts.list build.capacity) refl r is.comes.compiled)

  has_imaged : HasImaged files build (network_in imaged.network) loaded.choice.counts.list imaged.image
  has_imaged = record {
    r = r;
    cs = loaded.costs;
    has = record { text = is.text; has = is.has; said = is.said; says = is.says; allotted = is.allotted };
    only = is.comes.only;
    codes = loaded.program.codes;
    compiled = is.comes.compiled.codes;
    image_is = subst (λ (t : Tree). IsImageText (image_of t loaded.choice.counts.list loaded.program.codes build.capacity) imaged.image) is.comes.compiled.tree_is whole.text;
    network_is = network_is;
    loaded_is =
        ap network_in whole.network_is
        ∙ ap (λ t. network_in (loaded_of (image_of t loaded.choice.counts.list loaded.program.codes build.capacity))) is.comes.compiled.tree_is;
    room = room;
  }

  pub loads_imaged : LoadsImaged files build imaged
  loads_imaged = record {
    network = program_network files build r loaded is (network_in imaged.network) network_is;
    has = subst (λ (l : LoadedImage). HasImaged files build (network_in imaged.network) l.counts.list imaged.image) (sym whole.network_is) has_imaged;
    capacity_is = subst (λ (l : LoadedImage). l.cap ≡ build.capacity) (sym whole.network_is) refl;
  }
