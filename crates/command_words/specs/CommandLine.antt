-- Which words are a command line, and what they ask for.
use Rattle.std.specs.Prelude.{ℕ, ◌≤◌, ◌==◌, ◌&&◌, ◌||◌, not, nat_le, List, [], ◌∷◌, codes, length, slice_index, Bool, true, false, if◌then◌else◌, Option, Some, None, option_map, option_and_then}
use Rattle.std.specs.List.{list_all}
use Rattle.std.specs.Char.{is_ascii_digit}
use Rattle.std.specs.Str.{bytes_eq}
use Rattle.std.specs.Str.Parse.{digits_value}
use Rattle.clap.specs.Walk.{Row, Rule, Text, first_of}
use Rattle.clap.specs.Simple.{App, new_app, new_rule, with_rule, with_subcommand, subcommand_of, on_top}
use Rattle.clap.specs.Faults.{fault_of}
use Rattle.clap.specs.Kinds.{Kinds}
use Rattle.clap.specs.declared.builder.action.ArgAction.TheVariants.{Set}
use Rattle.command_words.specs.declared.line.CommandLine.{CommandLine}
use Rattle.command_words.specs.declared.line.CommandLine.TheVariants as line

-- ---- the command that reads the words

-- run [--workers N]: one text behind `--workers`, at most once, and else 4
abbrev pub workers_rule : Rule
workers_rule = record (new_rule (codes "workers")) { long = Some (codes "workers"); action = Some Set; defaults = codes "4" ∷ [] }

abbrev pub run_app : App
run_app = with_rule (new_app (codes "run")) workers_rule

-- make FIRST EDITS SESSIONS: three texts, all required
abbrev pub given_rule : Text → Rule
given_rule name = record (new_rule name) { required = true; action = Some Set }

abbrev pub make_app : App
make_app = with_rule (with_rule (with_rule (new_app (codes "make")) (given_rule (codes "FIRST"))) (given_rule (codes "EDITS"))) (given_rule (codes "SESSIONS"))

-- check SCRIPT TRANSCRIPT: two texts, both required
abbrev pub check_app : App
check_app = with_rule (with_rule (new_app (codes "check")) (given_rule (codes "SCRIPT"))) (given_rule (codes "TRANSCRIPT"))

-- bulk FIRST EDITS WORKERS: three texts, all required
abbrev pub bulk_app : App
bulk_app = with_rule (with_rule (with_rule (new_app (codes "bulk")) (given_rule (codes "FIRST"))) (given_rule (codes "EDITS"))) (given_rule (codes "WORKERS"))

-- one of these subcommands, with no help and no version to ask for
abbrev pub top_app : App
top_app = on_top (λ s. record s { no_binary_name = true; disable_help_flag = true; disable_help_subcommand = true; subcommand_required = true }) (new_app (codes "buffer_cli"))

abbrev pub words_app : App
words_app = with_subcommand (with_subcommand (with_subcommand (with_subcommand top_app run_app.top) make_app.top) check_app.top) bulk_app.top

-- ---- the numbers among the words

-- 1 to 9 decimal digits, with no leading zero but in `0` itself
abbrev pub is_number_word : Text → Bool
is_number_word word = (nat_le 1 (length word) && nat_le (length word) 9)
    && (((length word == 1) || not (slice_index word 0 == 48)) && list_all is_ascii_digit word)

-- the number that a word is, where it is one and lies between these
abbrev pub number_in : ℕ → ℕ → Text → Option ℕ
number_in low high word =
    if is_number_word word && (nat_le low (digits_value 10 word) && nat_le (digits_value 10 word) high) then Some (digits_value 10 word) else None

-- the number under a name
abbrev pub number_at : ℕ → ℕ → Text → List Row → Option ℕ
number_at low high name rows = option_and_then (number_in low high) (first_of name rows)

-- ---- what is asked for

abbrev pub run_line : List Row → Option CommandLine
run_line rows = option_map line.Run (number_at 0 16 (codes "workers") rows)

abbrev pub make_line : List Row → Option CommandLine
make_line rows =
    option_and_then (λ first. option_and_then (λ edits. option_map (line.Make first edits) (number_at 1 8 (codes "SESSIONS") rows))
    (number_at 1 4096 (codes "EDITS") rows)) (number_at 0 65535 (codes "FIRST") rows)

abbrev pub check_line : List Row → Option CommandLine
check_line rows = option_and_then (λ script. option_map (line.Check script) (first_of (codes "TRANSCRIPT") rows)) (first_of (codes "SCRIPT") rows)

abbrev pub bulk_line : List Row → Option CommandLine
bulk_line rows =
    option_and_then (λ first. option_and_then (λ edits. option_map (line.Bulk first edits) (number_at 0 16 (codes "WORKERS") rows))
    (number_at 1 4096 (codes "EDITS") rows)) (number_at 0 65535 (codes "FIRST") rows)

-- by the subcommand and its arguments
abbrev pub line_of : Option (Text × List Row) → Option CommandLine
line_of None = None
line_of (Some met) =
    if bytes_eq met.0 (codes "run") then run_line met.1
    else (if bytes_eq met.0 (codes "make") then make_line met.1
    else (if bytes_eq met.0 (codes "check") then check_line met.1
    else (if bytes_eq met.0 (codes "bulk") then bulk_line met.1 else None)))

-- no step of the parse fails
abbrev pub is_taken : Kinds → Bool
is_taken [] = true
is_taken (k ∷ ks) = false

-- what the words ask for, where the command takes them and their numbers are in range
unfoldable pub command_line : List Text → Option CommandLine
command_line words = if is_taken (fault_of words_app words) then line_of (subcommand_of words_app words) else None

-- its numbers are in range
abbrev pub IsInRange : CommandLine → Type 0
IsInRange (line.Run workers) = workers ≤ 16
IsInRange (line.Check script transcript) = Unit {0}
IsInRange (line.Bulk first edits workers) = (first ≤ 65535) × (1 ≤ edits) × (edits ≤ 4096) × (workers ≤ 16)
IsInRange (line.Make first edits sessions) = (first ≤ 65535) × (1 ≤ edits) × (edits ≤ 4096) × (1 ≤ sessions) × (sessions ≤ 8)
