-- The words that request a page wherever they are.
use Rattle.std.specs.Prelude.{ℕ, cond, List, Option, Some, None, find, position, is_some, take, bytes_eq, codes, ◌||◌}
use Rattle.std.specs.Borrow.{Bor}
use Rattle.std.specs.Option.{option_and_then, option_map}
use Rattle.p3l_help.specs.declared.flag.Flag.{Flag}
use Rattle.p3l_help.specs.declared.flag.Flag.TheVariants.{Help, Version}

-- the flag that a word requests, if any
abbrev pub flag_of : List ℕ → Option Flag
flag_of word =
    cond (bytes_eq word (codes "--help") || bytes_eq word (codes "-h")) (Some Help)
    (cond (bytes_eq word (codes "--version") || bytes_eq word (codes "-V")) (Some Version) None)

-- the words before this place, all where there is none
abbrev pub words_before : Option ℕ → List (Bor (List ℕ)) → List (Bor (List ℕ))
words_before (Some end) words = take end words
words_before None words = words

-- the place of the first `--`
abbrev pub dashes_in : List (Bor (List ℕ)) → Option ℕ
dashes_in words = position (λ word. bytes_eq word.now (codes "--")) words

-- the words before the first `--`
abbrev pub before_dashes : List (Bor (List ℕ)) → List (Bor (List ℕ))
before_dashes words = words_before (dashes_in words) words

-- the first word that requests something
abbrev pub request_among : List (Bor (List ℕ)) → Option (List ℕ)
request_among words = option_map (λ word. word.now) (find (λ word. is_some (flag_of word.now)) words)

-- the flag requested by the first word before `--` that requests one
abbrev pub first_flag : List (Bor (List ℕ)) → Option Flag
first_flag words = option_and_then flag_of (request_among (before_dashes words))

-- the topic that is requested where help would be about this one
abbrev pub topic_of : List ℕ → Flag → List ℕ
topic_of about Help = about
topic_of about Version = codes "version"
