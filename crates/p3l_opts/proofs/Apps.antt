-- Each command is simple, so what `clap` says of it is exact.
use Rattle.std.proofs.Common.{◌≡◌, ◌∙◌, Bool, List, [], ◌∷◌, Some, bytes_eq, false, find, true, ap, refl, inl, inr}
use Rattle.std.specs.List.{list_all}
use Rattle.clap.specs.Words.{App, Text, Kinds, fault_of, matches_of, is_simple, is_simple_and_free, HasKind, kind_of}
use Rattle.clap.specs.declared.error.Error.{Error}
use Rattle.clap.specs.declared.error.kind.ErrorKind.TheVariants.{OutOfMemory}
use Rattle.clap.proofs.OnLiterals.{clap_on_literals}
use Rattle.p3l_opts.specs.App.{app_for, faults, rows}
use Rattle.p3l_opts.specs.Table.{Entry, entries, entry_named}

-- an element that is found has the property of all elements
found_is : {A : Type 0} (test is : A → Bool) (xs : List A) (x : A) → list_all is xs ≡ true → find test xs ≡ Some x → is x ≡ true
found_is test is [] x every found = absurd cc
found_is {A} test is (y ∷ ys) x every found = by (test y) (is y) refl refl (found_is test is ys x)
  where
    by : (b c : Bool) → b ≡ test y → c ≡ is y → (list_all is ys ≡ true → find test ys ≡ Some x → is x ≡ true) → is x ≡ true
    by true true h k rest = (let first : Some y ≡ Some x = rw (← h) at found in cc)
    by false true h k rest = rest (rw (← k) at every) (rw (← h) at found)
    by b false h k rest = absurd (let no : false ≡ true = rw (← k) at every in cc)

all_simple_and_free : list_all (λ entry. is_simple_and_free (app_for entry)) entries ≡ true
unfolding clap_on_literals entries
all_simple_and_free = refl

all_simple : list_all (λ entry. is_simple (app_for entry)) entries ≡ true
unfolding clap_on_literals entries
all_simple = refl

module _ (name : Text) (entry : Entry) (a : App) (named : entry_named name ≡ Some entry) (is : a ≡ app_for entry) where
  pub as_simple_and_free : is_simple_and_free a ≡ true
  unfolding entry_named
  as_simple_and_free = ap is_simple_and_free is ∙ found_is (λ entry. bytes_eq entry.1 name) (λ entry. is_simple_and_free (app_for entry)) entries entry all_simple_and_free named

  pub as_simple : is_simple a ≡ true
  unfolding entry_named
  as_simple = ap is_simple is ∙ found_is (λ entry. bytes_eq entry.1 name) (λ entry. is_simple (app_for entry)) entries entry all_simple named

pub as_faults : (entry : Entry) (a : App) (words : List Text) → a ≡ app_for entry → fault_of a words ≡ faults entry words
unfolding faults
as_faults entry a words e = ap (λ (x : App). fault_of x words) e

pub as_rows : (entry : Entry) (a : App) (words : List Text) → a ≡ app_for entry → matches_of a words ≡ rows entry words
unfolding rows
as_rows entry a words e = ap (λ (x : App). matches_of x words) e

pub no_kind : (kinds : Kinds) (e : Error) → HasKind kinds e → kinds ≡ [] → kind_of e ≡ OutOfMemory
no_kind [] e (inl m) none = m
no_kind [] e (inr b) none = absurd b
no_kind (k ∷ ks) e h none = cc
