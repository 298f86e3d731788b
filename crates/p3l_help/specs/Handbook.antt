-- The page that words request.
use Rattle.std.specs.Prelude.{ℕ, Bool, cond, List, Option, Some, None, bytes_eq, codes, drop, is_some, slice_get}
use Rattle.std.specs.Borrow.{Bor}
use Rattle.std.specs.Option.{option_and_then}
use Rattle.p3l_help.specs.declared.flag.Flag.{Flag}
use Rattle.p3l_help.specs.declared.handbook.Handbook.{Handbook}
use Rattle.p3l_help.specs.Flag.{flag_of, first_flag, topic_of}
use Rattle.p3l_help.specs.Page.{text_among}

-- the first of two that is there
abbrev pub first_of : Option (List ℕ) → Option (List ℕ) → Option (List ℕ)
first_of (Some one) other = Some one
first_of None other = other

-- the text of the page on a number of refusal
abbrev pub fault_on : Handbook → List ℕ → Option (List ℕ)
fault_on book number =
    first_of (text_among book.texts.now number)
    (first_of (text_among book.modules.now number)
    (first_of (text_among book.sheets.now number)
    (first_of (text_among book.evidence.now number) (text_among book.runs.now number))))

-- the text of the page on a topic
abbrev pub page_on : Handbook → List ℕ → Option (List ℕ)
page_on book topic =
    first_of (text_among book.commands.now topic)
    (first_of (text_among book.topics.now topic) (fault_on book topic))

-- a word is the first word of a command
abbrev pub is_command : Handbook → List ℕ → Bool
is_command book word = is_some (text_among book.commands.now word)

-- the topic of a flag where help would be about this one, or else another topic
abbrev pub flag_or : List ℕ → Option (List ℕ) → Option Flag → Option (List ℕ)
flag_or about other (Some flag) = Some (topic_of about flag)
flag_or about other None = other

-- the topic that `help` names by the word after it and the one after that
abbrev pub named_by : Option (Bor (List ℕ)) → Option (Bor (List ℕ)) → Option (List ℕ)
named_by None more = Some (codes "help")
named_by (Some word) None = flag_or (codes "help") (Some word.now) (flag_of word.now)
named_by (Some word) (Some more) = None

-- the topic that the words after `help` name
abbrev pub named_topic : List (Bor (List ℕ)) → Option (List ℕ)
named_topic words = named_by (slice_get words 0) (slice_get words 1)

-- the topic that the words of a command request
abbrev pub command_topic : Handbook → List ℕ → List (Bor (List ℕ)) → Option (List ℕ)
command_topic book first rest = cond (is_command book first) (flag_or first None (first_flag rest)) None

-- the topic that a first word and those after it request
abbrev pub topic_after : Handbook → List ℕ → List (Bor (List ℕ)) → Option (List ℕ)
topic_after book first rest =
    cond (bytes_eq first (codes "help")) (named_topic rest) (flag_or (codes "help") (command_topic book first rest) (flag_of first))

-- the topic that the words request
abbrev pub requested_topic : Handbook → List (Bor (List ℕ)) → Option (List ℕ)
requested_topic book words = option_and_then (λ first. topic_after book first.now (drop 1 words)) (slice_get words 0)

-- the text that the words request
abbrev pub answer_to : Handbook → List (Bor (List ℕ)) → Option (List ℕ)
answer_to book words = option_and_then (page_on book) (requested_topic book words)
