-- From the reading and the loading of an image to its stages and its network.
use Rattle.std.proofs.Common.{◌≡◌, ℕ, zero, suc, List, [], ◌∷◌, Option, None, sym, ap, ◌∙◌, inl, inr, subst, refl}
use Rattle.std.specs.List.{All, AllByRecursion}
use Rattle.std.specs.Prelude.{IsSomeAnd, slice_get}
use Rattle.std.specs.declared.result.Result.TheVariants.{Ok, Err}
use Rattle.std.proofs.lemmas.List.Elements.{recursion_from_All}
use Rattle.p3l_code.specs.declared.instr.Code.{Code}
use Rattle.p3l_code.specs.Safe.{IsSafe}
use Rattle.p3l_image.specs.declared.image.Image.{Image}
use Rattle.p3l_image.specs.declared.image.ImageRefusal.{ImageRefusal}
use Rattle.p3l_image.specs.declared.image.ImageRefusal.TheVariants as image
use Rattle.p3l_image.specs.Image.{image_in}
use Rattle.p3l_image.specs.Refusal.{Answers}
use Rattle.p3l_io.specs.Change.{Change, HasSameFaults, change}
use Rattle.p3l_io.specs.Content.{Held}
use Rattle.p3l_load.specs.declared.loaded.Loaded.{Loaded}
use Rattle.p3l_load.specs.declared.loaded.LoadRefusal.{LoadRefusal}
use Rattle.p3l_load.specs.declared.loaded.LoadRefusal.TheVariants as load
use Rattle.p3l_load.specs.Codes.{IsFirstUnsafe}
use Rattle.p3l_load.specs.Load.{IsRunnable, Refuses, RefusesMigration, loaded_of, migrated_of}
use Rattle.p3l_report.specs.declared.evidence.Evidence.TheVariants as evidence
use Rattle.p3l_report.specs.declared.verdict.Refusal.TheVariants as refusal
use Rattle.p3l_report.specs.declared.verdict.Verdict.{Verdict}
use Rattle.p3l_report.specs.declared.verdict.Verdict.TheVariants as verdict
use Rattle.p3l_report.specs.Verdict.{verdict_of}
use Rattle.p3l_run.specs.Network.{Network}
use Rattle.p3l_program.specs.File.{HasText}
use Rattle.p3l_program.specs.Image.{IsBrokenImage, IsImage, image_limit}
use Rattle.p3l_program.specs.Load.{IsNotLoaded, LoadsNetwork}
use Rattle.p3l_program.specs.Migrate.{Migrates}
use Rattle.p3l_program.specs.Origin.{imaged}
use Rattle.p3l_program.specs.LoadImage.{IsReadyImage, IsUndecoded, IsUnloadable, LoadsBytes, LoadsImage}
use Rattle.p3l_program.specs.Plan.{IsImaged, network_in}
use Rattle.p3l_program.specs.Stage.{AllPass, Stage, decoded, image_stages, migrate_stages, readable}

-- codes that are all safe have no unsafe one
unsafe_at : (codes : List Code) (number : ℕ) → IsSomeAnd (slice_get codes number) (λ code. ¬ IsSafe code) → AllByRecursion IsSafe codes → ⊥
unsafe_at [] number unsafe safe = absurd unsafe
unsafe_at (code ∷ codes) zero unsafe safe = unsafe safe.0
unsafe_at (code ∷ codes) (suc number) unsafe safe = unsafe_at codes number unsafe safe.1

first_unsafe : (codes : List Code) (number : ℕ) → IsFirstUnsafe codes number → All IsSafe codes → ⊥
first_unsafe codes number first safe = unsafe_at codes number first.unsafe (recursion_from_All IsSafe codes safe)

-- bytes that are refused spell no image
pub undecoded : (bytes : List ℕ) (r : ImageRefusal) → ((i : Image) → IsImage i bytes → Answers bytes (Err r) (Ok i)) → Answers bytes (Err r) (image_in bytes) →
    IsUndecoded bytes (verdict_of (refusal.Evidence (evidence.Image r)))
undecoded bytes image.BadMagic only exact = record { misspelled = sym exact; never = λ i is. let z = only i is in absurd cc }
undecoded bytes (image.Version version) only exact = record { misspelled = sym exact; never = λ i is. let z = only i is in absurd cc }
undecoded bytes (image.Short place) only exact = record { misspelled = sym exact; never = λ i is. let z = only i is in absurd cc }
undecoded bytes (image.BadField place) only exact = record { misspelled = sym exact; never = λ i is. let z = only i is in absurd cc }
undecoded bytes (image.TrailingBytes place) only exact = record { misspelled = sym exact; never = λ i is. let z = only i is in absurd cc }
undecoded bytes image.NoMemory only exact = exact

-- so they load none
pub unloadable : (bytes : List ℕ) (v : Verdict) → IsUndecoded bytes v → IsUnloadable bytes v
unloadable bytes (verdict.Refused (refusal.Evidence (evidence.Image why))) h = h
unloadable bytes verdict.NoMemory h = h
unloadable bytes v h = absurd h

module _ (bytes : List ℕ) (i : Image) (is : IsImage i bytes) (only : (other : Image) → IsImage other bytes → other ≡ i) where
  broken : (why : LoadRefusal) → Refuses i why → (why ≡ load.NoMemory → ⊥) → (IsRunnable i → ⊥) → IsBrokenImage why bytes
  broken why refuses named never = record { i = i; is = is; broken = refuses; named = named; never = λ other runs. never (subst (λ o. IsRunnable o) (only other runs.is) runs.runs) }

  -- an image that is refused can't be run
  pub unrunnable : (r : LoadRefusal) → Refuses i r → IsUnloadable bytes (verdict_of (refusal.Evidence (evidence.Load r)))
  unrunnable load.TreeWrong h = broken load.TreeWrong h (λ e. absurd cc) (λ runs. h runs.whole)
  unrunnable (load.CodeUnsafe number) h = broken (load.CodeUnsafe number) h (λ e. absurd cc) (λ runs. first_unsafe i.codes number h.1 runs.safe)
  unrunnable load.NotLinked h = broken load.NotLinked h (λ e. absurd cc) (λ runs. h.2 runs.linked)
  unrunnable load.NoMemory h = h

module _ (files : Change Held) (name bytes : List ℕ) (has : HasText files.old.content image_limit name bytes) (same_faults : HasSameFaults files) where
  -- bytes that are no image stop the stages of an image, whatever stages come after
  pub not_decoded : (more : List Stage) (v : Verdict) → IsUndecoded bytes v → IsNotLoaded files (readable image_limit name ∷ (decoded name ∷ more)) v
  not_decoded more (verdict.Refused (refusal.Evidence (evidence.Image why))) h = (inr ((bytes, has), inl (record { bytes = bytes; has = has; are = h })), same_faults)
  not_decoded more verdict.NoMemory h = same_faults
  not_decoded more v h = absurd h

  module _ (i : Image) (is : IsImage i bytes) (only : (other : Image) → IsImage other bytes → other ≡ i) where
    unfit : (why : LoadRefusal) → RefusesMigration i why → (why ≡ load.NoMemory → ⊥) → (IsRunnable (migrated_of i) → ⊥) → IsNotLoaded files (migrate_stages name) (verdict.Refused (refusal.Evidence (evidence.Load why)))
    unfit why refuses named never = (
      inr (
        (bytes, has),
        inr (
          (i, record { bytes = bytes; has = has; are = is }),
          inl (record {
            bytes = bytes;
            has = has;
            are = record { i = i; is = is; unfit = refuses; named = named; never = λ other runs. never (subst (λ o. IsRunnable (migrated_of o)) (only other runs.is) runs.runs) };
          }),
        ),
      ),
      same_faults,
    )

    -- an image that is refused can't be migrated
    pub not_migrated : (r : LoadRefusal) → RefusesMigration i r → IsNotLoaded files (migrate_stages name) (verdict_of (refusal.Evidence (evidence.Load r)))
    not_migrated load.TreeWrong h =
        unfit load.TreeWrong h (λ e. absurd cc) (λ runs. h (record { lawful = runs.whole.lawful; counted = runs.whole.counted; few = runs.whole.few; coded = runs.whole.coded }))
    not_migrated (load.CodeUnsafe number) h = unfit (load.CodeUnsafe number) h (λ e. absurd cc) (λ runs. first_unsafe i.codes number h.1 runs.safe)
    not_migrated load.NotLinked h = absurd h
    not_migrated load.NoMemory h = same_faults

-- all stages of an image that was migrated pass
pub migrate_passes : (files : Change Held) (name : List ℕ) (migrated : Image) → Migrates files.old.content name migrated → AllPass files (migrate_stages name)
migrate_passes files name migrated m = (
  (m.bytes, m.has),
  (
    (m.i, record { bytes = m.bytes; has = m.has; are = m.is }),
    ((m.i, record { bytes = m.bytes; has = m.has; are = record { is = m.is; runs = subst (λ image. IsRunnable image) m.migrated_is m.runs } }), tt),
  ),
)

-- bytes spell one image
pub same_image : (bytes : List ℕ) (i : Image) → ((other : Image) → IsImage other bytes → Answers bytes (Ok i) (Ok other)) → (other : Image) → IsImage other bytes → other ≡ i
same_image bytes i only other is = let z = only other is in cc

-- a loaded image can be run
pub ready : (bytes : List ℕ) (loaded : Loaded) → LoadsBytes bytes loaded → IsReadyImage loaded
ready bytes loaded loads =
    let runs = loads.runs.runs in
    let here : IsReadyImage (loaded_of loads.i) = record { lawful = runs.whole.lawful; fit = runs.whole.counted; codes = runs.whole.coded.words; net_is = runs.linked; typed = runs.typed; room = loads.room } in
    subst IsReadyImage (sym loads.loaded_is) here

module _ (name : List ℕ) (loaded : Loaded) where
  module _ (files : Option Held) (image : LoadsImage files name loaded) where
    -- its network is the one that is requested
    is_imaged : IsImaged (record { text = image.bytes; said = None }) (network_in loaded)
    is_imaged = record { i = image.loads.i; runs = image.loads.runs; network_is = ap network_in image.loads.loaded_is }

    -- and the only one
    only_imaged : (other : Network) → IsImaged (record { text = image.bytes; said = None }) other → other ≡ network_in loaded
    only_imaged other o = o.network_is ∙ ap (λ i. network_in (loaded_of i)) (image.loads.only o.i o.runs.is) ∙ ap network_in (sym image.loads.loaded_is)

  -- and all stages of the image pass
  image_passes : (files : Change Held) → LoadsImage files.old.content name loaded → AllPass files (image_stages name)
  image_passes files image =
      let loads = image.loads in
      ((image.bytes, image.has), ((loads.i, record { bytes = image.bytes; has = image.has; are = loads.runs.is }), ((loads.i, record { bytes = image.bytes; has = image.has; are = loads.runs }), tt)))

  -- so the network of the image was loaded
  pub image_network : (files : Option Held) → LoadsImage files name loaded → LoadsNetwork files (imaged name) (network_in loaded)
  image_network files image = record {
    texts = record { text = image.bytes; said = None };
    have = (image.has, refl);
    is = is_imaged files image;
    only = only_imaged files image;
    passed = λ change known. image_passes change (subst (λ f. LoadsImage f name loaded) (sym known) image);
  }
