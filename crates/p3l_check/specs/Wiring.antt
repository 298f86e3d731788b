-- Modules whose calls fit them.
use Rattle.std.specs.Prelude.{◌≡◌, ℕ, ◌*◌, ◌^◌, ◌<◌, ◌≤◌, IsTrue, IfSome, List, [], ◌∷◌, length, slice_index, slice_index_or, false}
use Rattle.std.specs.List.{All}
use Rattle.p3l_base.specs.declared.cut.Cut.{Cut}
use Rattle.p3l_base.specs.Cut.{IsLawfulCut}
use Rattle.p3l_skel.specs.declared.tree.Form.{Form}
use Rattle.p3l_skel.specs.declared.tree.Form.TheVariants.{Seq, Comp, Pipe, Farm, Map, Reduce, Loop}
use Rattle.p3l_skel.specs.declared.tree.ModuleInfo.{ModuleInfo}
use Rattle.p3l_skel.specs.Tree.{sequential_row}
use Rattle.p3l_skel.specs.Counts.{IsCountInRange, workers_of}
use Rattle.p3l_skel.specs.Lawful.{IsSize, HasSizes, HasOnePart, HasTwoParts, HasLoopLimits, HasKind, HasLawfulRescue, kind_of}
use Rattle.p3l_check.specs.declared.callables.Callable.{Callable}

-- the module of a number past the modules: a pipe of nothing
abbrev pub no_module : Callable
no_module = record { form = Pipe; ins = 0; outs = 0; calls = []; sequential = false }

-- the module of this number
abbrev pub module_at : List Callable → ℕ → Callable
module_at callables k = slice_index_or callables k no_module

-- a module takes `ins` words and gives `outs`
pub record TakesAndGives (callee : Callable) (ins outs : ℕ) : Type 0 where
  pub takes : callee.ins ≡ ins
  pub gives : callee.outs ≡ outs

-- each module gives what the next takes: the first takes `ins` words, and the last gives `outs`
abbrev pub IsCallChain : List Callable → ℕ → ℕ → List ℕ → Type 0
IsCallChain callables ins outs [] = ins ≡ outs
IsCallChain callables ins outs (c ∷ cs) = ((module_at callables c).ins ≡ ins) × IsCallChain callables (module_at callables c).outs outs cs

-- a module is sequential
abbrev pub IsSequentialModule : List Callable → ℕ → Type 0
IsSequentialModule callables c = IsTrue (module_at callables c).sequential

-- the numbers of a map fit it and its callee
pub record IsCallableMap (cut : Cut) (ins outs : ℕ) (callee : Callable) : Type 0 where
  pub in_sizes : All HasSizes cut.ins
  pub out_sizes : All HasSizes cut.outs
  pub cuts : IsLawfulCut cut ins outs callee.ins callee.outs

-- the numbers of a reduce fit it and its operator
pub record IsCallableReduce (len elem ins outs : ℕ) (callee : Callable) : Type 0 where
  pub elements : ins ≡ len * elem
  pub result : outs ≡ elem
  pub operator : TakesAndGives callee (2 * elem) elem
  pub sequential : IsTrue callee.sequential

-- the numbers of a loop fit it, its body and its condition
pub record IsCallableLoop (turns tokens ins outs : ℕ) (body condition : Callable) : Type 0 where
  pub limits : HasLoopLimits turns tokens
  pub same_words : ins ≡ outs
  pub turned : TakesAndGives body ins outs
  pub tested : TakesAndGives condition ins 1
  pub sequential : IsTrue condition.sequential

-- the rules of the calls of a module of a form
abbrev pub IsCallableForm : List Callable → Form → ℕ → ℕ → List ℕ → Type 0
IsCallableForm callables Seq ins outs calls = calls ≡ []
IsCallableForm callables Comp ins outs calls = (1 ≤ length calls) × IsCallChain callables ins outs calls × All (IsSequentialModule callables) calls
IsCallableForm callables Pipe ins outs calls = (1 ≤ length calls) × IsCallChain callables ins outs calls
IsCallableForm callables (Farm w) ins outs calls = HasOnePart (λ c. TakesAndGives (module_at callables c) ins outs) calls
IsCallableForm callables (Map w cut) ins outs calls = HasOnePart (λ c. IsCallableMap cut ins outs (module_at callables c)) calls
IsCallableForm callables (Reduce w len elem) ins outs calls = HasOnePart (λ c. IsCallableReduce len elem ins outs (module_at callables c)) calls
IsCallableForm callables (Loop turns tokens) ins outs calls =
    HasTwoParts (λ c d. IsCallableLoop turns tokens ins outs (module_at callables c) (module_at callables d)) calls

-- module k, whose name and skeleton are in `infos`, fits the modules before it that it calls
pub record IsCallableModule (infos : List ModuleInfo) (callables : List Callable) (k : ℕ) (m : Callable) : Type 0 where
  pub kind : HasKind infos k (kind_of m.form)
  pub ins : IsSize m.ins
  pub outs : IsSize m.outs
  -- the `workers` clause
  pub workers : IfSome (workers_of m.form) (IsCountInRange m.form)
  pub earlier : All (λ c. c < k) m.calls
  pub form : IsCallableForm callables m.form m.ins m.outs m.calls
  -- a seq, a comp, or a map or reduce of a sequential module
  pub sequential : m.sequential ≡ sequential_row m.form (module_at callables (slice_index m.calls 0)).sequential

-- modules in the order of the source, each of which fits those that it calls, and has a rescue
-- number only where its skeleton allows one
pub record IsWiring (infos : List ModuleInfo) (callables : List Callable) : Type 0 where
  pub count : length callables ≡ length infos
  pub few : length infos < 2 ^ 32
  pub rescues : All HasLawfulRescue infos
  pub each : (k : ℕ) → k < length callables → IsCallableModule infos callables k (module_at callables k)
