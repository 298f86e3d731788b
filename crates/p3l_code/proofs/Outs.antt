-- The words that a code gives are as many as its out words.
use Rattle.std.proofs.Common.{◌≡◌, ℕ, ℤ, zero, suc, pos, ◌+◌, Bool, true, false, cond, List, [], ◌∷◌, ◌++◌, length, drop, Option, Some, None, Result, Ok, Err, refl, arith, length-take, length-append}
use Rattle.std.specs.Prelude.{slice_get, nat_lt, replicate}
use Rattle.p3l_base.specs.declared.outcome.TrapKind.{TrapKind}
use Rattle.p3l_base.specs.declared.outcome.TrapKind.TheVariants.{Budget}
use Rattle.p3l_ast.specs.Meaning.Operator.{unary_of, binary_of}
use Rattle.p3l_skel.specs.Tree.{HasLength}
use Rattle.p3l_code.specs.declared.instr.Instr.{Instr}
use Rattle.p3l_code.specs.declared.instr.Instr.TheVariants.{Push, Load, Store, Step, LoadAt, StoreAt, Unary, Binary, Jump, JumpZero, JumpNonZero, Turn, End}
use Rattle.p3l_code.specs.declared.instr.Code.{Code}
use Rattle.p3l_code.specs.Machine.{Ending, Continuation, present, after, popped, index_of, written, outs_of, act, run_by, most_steps, machine, started, ending, outcome_of, exec}

-- an ending has n words
GivesWords : ℕ → Ending → Type 0
GivesWords n None = Unit {0}
GivesWords n (Some (Ok words)) = length words ≡ n
GivesWords n (Some (Err trap)) = Unit {0}

present_gives : {A : Type 0} (n : ℕ) (o : Option A) (go : A → Ending) → ((x : A) → GivesWords n (go x)) → GivesWords n (present o go)
unfolding GivesWords
present_gives n None go h = tt
present_gives n (Some x) go h = h x

after_gives : {A : Type 0} (n : ℕ) (r : Result A TrapKind) (go : A → Ending) → ((x : A) → GivesWords n (go x)) → GivesWords n (after r go)
unfolding GivesWords
after_gives n (Ok x) go h = h x
after_gives n (Err trap) go h = tt

popped_gives : (n : ℕ) (stack : List ℤ) (go : ℤ → List ℤ → Ending) → ((x : ℤ) (rest : List ℤ) → GivesWords n (go x rest)) → GivesWords n (popped stack go)
unfolding GivesWords
popped_gives n [] go h = tt
popped_gives n (x ∷ stack) go h = h x stack

length_zeros : (n : ℕ) → length (replicate n (pos 0)) ≡ n
length_zeros zero = refl
length_zeros (suc n) = let e = length_zeros n in omega arith

-- there are as many out words as the code says
pub length_outs_of : (code : Code) (memory : List ℤ) → length (outs_of code memory) ≡ code.outs
length_outs_of code memory =
    omega (arith, length-take code.outs (drop code.ins memory ++ replicate code.outs (pos 0)), length-append (drop code.ins memory) (replicate code.outs (pos 0)), length_zeros code.outs)

turn_gives : (n : ℕ) (b : Bool) (go : Ending) → GivesWords n go → GivesWords n (cond b go (Some (Err Budget)))
unfolding GivesWords
turn_gives n true go h = h
turn_gives n false go h = tt

act_gives : (code : Code) (next : Continuation) (i : Instr) (pc : ℕ) (stack memory : List ℤ) (turns : ℕ) → ((p : ℕ) (s m : List ℤ) (t : ℕ) → GivesWords code.outs (next p s m t)) → GivesWords code.outs (act code next i pc stack memory turns)
unfolding GivesWords
act_gives code next (Push v) pc stack memory turns h = h (pc + 1) (v ∷ stack) memory turns
act_gives code next (Load slot) pc stack memory turns h =
    present_gives code.outs (slice_get memory slot) _ (λ v. h (pc + 1) (v ∷ stack) memory turns)
act_gives code next (Store slot) pc stack memory turns h =
    popped_gives code.outs stack _ (λ v rest. present_gives code.outs (written memory slot v) _ (λ m. h (pc + 1) rest m turns))
act_gives code next (Step size) pc stack memory turns h =
    popped_gives code.outs stack _ (λ i rest. popped_gives code.outs rest _ (λ a below. after_gives code.outs (index_of size i) _ (λ k. h (pc + 1) _ memory turns)))
act_gives code next (LoadAt base size) pc stack memory turns h =
    popped_gives code.outs stack _ (λ o rest. after_gives code.outs (index_of size o) _ (λ k. present_gives code.outs (slice_get memory (base + k)) _ (λ v. h (pc + 1) (v ∷ rest) memory turns)))
act_gives code next (StoreAt base size) pc stack memory turns h =
    popped_gives code.outs stack _ (λ v rest. popped_gives code.outs rest _ (λ o below. after_gives code.outs (index_of size o) _ (λ k. present_gives code.outs (written memory (base + k) v) _ (λ m. h (pc + 1) below m turns))))
act_gives code next (Unary op) pc stack memory turns h =
    popped_gives code.outs stack _ (λ x rest. h (pc + 1) (unary_of op x ∷ rest) memory turns)
act_gives code next (Binary op) pc stack memory turns h =
    popped_gives code.outs stack _ (λ y rest. popped_gives code.outs rest _ (λ x below. after_gives code.outs (binary_of op x y) _ (λ v. h (pc + 1) (v ∷ below) memory turns)))
act_gives code next (Jump to) pc stack memory turns h = h to stack memory turns
act_gives code next (JumpZero to) pc stack memory turns h = popped_gives code.outs stack _ (λ x rest. h _ rest memory turns)
act_gives code next (JumpNonZero to) pc stack memory turns h = popped_gives code.outs stack _ (λ x rest. h _ rest memory turns)
act_gives code next Turn pc stack memory turns h = turn_gives code.outs (nat_lt turns code.budget) _ (h (pc + 1) stack memory (turns + 1))
act_gives code next End pc stack memory turns h = length_outs_of code memory

run_gives : (code : Code) (n pc : ℕ) (stack memory : List ℤ) (turns : ℕ) → GivesWords code.outs (run_by code n pc stack memory turns)
unfolding GivesWords run_by
run_gives code zero pc stack memory turns = tt
run_gives code (suc n) pc stack memory turns =
    present_gives code.outs (slice_get code.instrs pc) _ (λ i. act_gives code (run_by code n) i pc stack memory turns (λ p s m t. run_gives code n p s m t))

ending_long : (n m : ℕ) (e : Ending) → GivesWords n e → HasLength n (outcome_of m e)
unfolding GivesWords
ending_long n m None h = tt
ending_long n m (Some (Ok words)) h = h
ending_long n m (Some (Err trap)) h = tt

-- whatever the code and the words
pub exec_gives : (code : Code) (m : ℕ) (words : List ℤ) → HasLength code.outs (exec code m words)
unfolding machine
exec_gives code m words =
    ending_long code.outs m (ending code words) (run_gives code (most_steps code) 0 [] (started code words) 0)
