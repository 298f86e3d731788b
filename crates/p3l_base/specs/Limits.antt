-- The limits of programs, trees and networks, each of them said once. `src/limits.rt` says what each
-- limits. They are abbreviations, so that a proof by arithmetic sees the number.
use Rattle.std.specs.Prelude.{ℕ}

abbrev pub most_workers : ℕ
most_workers = 512

abbrev pub most_processors : ℕ
most_processors = 512

abbrev pub most_tokens : ℕ
most_tokens = 1024

abbrev pub most_turns : ℕ
most_turns = 65536

abbrev pub most_words : ℕ
most_words = 65536

abbrev pub most_sizes : ℕ
most_sizes = 3

abbrev pub most_nodes : ℕ
most_nodes = 128

abbrev pub most_processes : ℕ
most_processes = 4096

abbrev pub most_instructions : ℕ
most_instructions = 4194304

abbrev pub most_stack : ℕ
most_stack = 1024

abbrev pub most_budget : ℕ
most_budget = 100000000

abbrev pub most_cost : ℕ
most_cost = 1000000

abbrev pub most_file_bytes : ℕ
most_file_bytes = 67108864
