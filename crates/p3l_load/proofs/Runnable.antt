-- Images of programs that keep the rules can be run.
use Rattle.std.proofs.Common.{◌≡◌, ℕ, ◌≤◌, suc, true, List, [], ◌∷◌, length, refl, sym, ap, ◌∙◌, subst}
use Rattle.std.specs.List.{All}
use Rattle.p3l_body.specs.Seq.{SeqTree}
use Rattle.p3l_skel.specs.declared.tree.Tree.{Tree}
use Rattle.p3l_skel.specs.Counts.{HasLawfulCounts}
use Rattle.p3l_skel.specs.Lawful.{IsLawfulTree}
use Rattle.p3l_skel.specs.Numbers.{procs}
use Rattle.p3l_check.specs.Resolving.{ResolvedTree}
use Rattle.p3l_code.specs.declared.instr.Code.{Code}
use Rattle.p3l_code.specs.Safe.{IsSafe}
use Rattle.p3l_compile.specs.Leaves.{AreCodes}
use Rattle.p3l_compile.proofs.Leaves.{have_codes}
use Rattle.p3l_firing.specs.Typed.{IsTyped}
use Rattle.p3l_link.specs.Net.{linked_net}
use Rattle.p3l_image.specs.declared.image.Image.{Image}
use Rattle.p3l_image.specs.Image.{CanBeWritten}
use Rattle.p3l_load.specs.Written.{EveryRunnableImageCanBeWritten, HasAllOperands, HasName, HasRescueInRange}
use Rattle.p3l_load.specs.Load.{IsRunnable}
use Rattle.p3l_load.specs.Compiled.{AreCodesOf, ComesTo, EveryBodyHasItsModule, EveryCompiledImageCanBeRun, EveryModuleHasAName, image_of}

-- as many codes as bodies
codes_many : (seqs : List SeqTree) (codes : List Code) → AreCodes seqs codes → length codes ≡ length seqs
codes_many [] [] are = refl
codes_many [] (code ∷ codes) are = absurd are
codes_many (seq ∷ seqs) [] are = absurd are
codes_many (seq ∷ seqs) (code ∷ codes) are = ap suc (codes_many seqs codes are.1)

module _ (counted : EveryBodyHasItsModule)
    (typed : (tree : Tree) (counts : List ℕ) (cap : ℕ) → IsLawfulTree tree → HasLawfulCounts tree counts → procs tree counts 0 ≤ 4096 → 1 ≤ cap → IsTyped tree (linked_net tree counts cap)) where
  -- the image of the tree itself
  runs_here : (bytes : List ℕ) (r : ResolvedTree) (codes : List Code) (counts : List ℕ) (capacity : ℕ) → ComesTo bytes r → AreCodes r.seqs codes → All IsSafe codes →
      HasLawfulCounts r.tree counts → procs r.tree counts 0 ≤ 4096 → 1 ≤ capacity → IsRunnable (image_of r.tree counts codes capacity)
  runs_here bytes r codes counts capacity comes compiled safe fit few some = record {
    whole = record {
      lawful = comes.lawful;
      counted = fit;
      few = few;
      coded = record {
        one_each = codes_many r.seqs codes compiled ∙ counted bytes comes.program r comes.spelled comes.keeps;
        words = have_codes r.tree r.seqs codes comes.bodies compiled;
      };
    };
    safe = safe;
    linked = refl;
    typed = typed r.tree counts capacity comes.lawful fit few some;
  }

  pub compiled_runs : EveryCompiledImageCanBeRun
  compiled_runs tree codes counts capacity own safe fit few some =
      let same = own.tree_is in
      subst (λ t. IsRunnable (image_of t counts codes capacity)) (sym same)
      (runs_here own.bytes own.r codes counts capacity own.comes own.compiled safe
      (subst (λ t. HasLawfulCounts t counts) same fit) (subst (λ t. procs t counts 0 ≤ 4096) same few) some)

-- such an image can be run, and be written
pub record IsMade (image : Image) : Type 0 where
  pub runs : IsRunnable image
  pub fits : CanBeWritten image

module _ (named : EveryModuleHasAName) (runs : EveryCompiledImageCanBeRun) (fit : EveryRunnableImageCanBeWritten) where
  pub made : (tree : Tree) (codes : List Code) (counts : List ℕ) (capacity : ℕ) → AreCodesOf tree codes → All IsSafe codes → All HasRescueInRange tree.modules → All HasAllOperands codes →
      HasLawfulCounts tree counts → procs tree counts 0 ≤ 4096 → 1 ≤ capacity → capacity ≤ 1024 → IsMade (image_of tree counts codes capacity)
  made tree codes counts capacity own safe rescues operands lawful small some few =
      let can = runs tree codes counts capacity own safe lawful small some in
      let names = named own.bytes own.comes.program own.r own.comes.spelled own.comes.keeps in
      record {
        runs = can;
        fits = fit (image_of tree counts codes capacity) can some few (subst (λ (t : Tree). All HasName t.modules) (sym own.tree_is) names) rescues operands;
      }
