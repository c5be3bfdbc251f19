-- The words of the program, and what they mean.
use Rattle.std.specs.Prelude.{ℕ, String, map, string_bytes, List, [], ◌∷◌, codes, Option, Some, None, if◌then◌else◌}
use Rattle.std.specs.Str.{bytes_eq}
use Rattle.std.specs.declared.alloc.Global.{Global}
use Rattle.js_text.specs.declared.source_type.SourceType.{SourceType}
use Rattle.js_lex_tool.specs.Words.{count_in, entry_for, source_type_words}
use Rattle.js_bench.specs.declared.pass.GoalRule.{GoalRule}
use Rattle.js_bench.specs.declared.pass.GoalRule.TheVariants.{Auto, Jsx}
use Rattle.js_bench.specs.declared.pass.Kept.{Kept}
use Rattle.js_bench.specs.declared.pass.Kept.TheVariants.{Nothing, Tokens, Lists}
use Rattle.js_bench.specs.declared.words.BenchLine.{BenchLine}

-- the most passes of a run
abbrev pub most_passes : ℕ
most_passes = 1000

-- the words for what a pass keeps of the tokens
abbrev pub kept_words : List (List ℕ × Kept)
kept_words = (codes "tokens", Tokens) ∷ (codes "no-tokens", Nothing) ∷ (codes "lists", Lists) ∷ []

-- the rule that the last words name: that of js_auto where there is none
abbrev pub rule_in : List (List ℕ) → Option GoalRule
rule_in [] = Some Auto
rule_in (word ∷ []) = if bytes_eq word (codes "jsx") then Some Jsx else None
rule_in (word ∷ more ∷ words) = None

-- the line of these parts, where each is there
abbrev pub bench_line : Option SourceType → Option Kept → Option ℕ → Option GoalRule → Option BenchLine
bench_line None kept passes rule = None
bench_line (Some source_type) None passes rule = None
bench_line (Some source_type) (Some kept) None rule = None
bench_line (Some source_type) (Some kept) (Some passes) None = None
bench_line (Some source_type) (Some kept) (Some passes) (Some rule) =
    Some (record { source_type = source_type; kept = kept; passes = passes; rule = rule })

-- the line that words are: a source type, what is kept of the tokens, a number of passes, and a rule if one is named
abbrev pub bench_line_in : List (List ℕ) → Option BenchLine
bench_line_in [] = None
bench_line_in (source_type ∷ []) = None
bench_line_in (source_type ∷ kept ∷ []) = None
bench_line_in (source_type ∷ kept ∷ passes ∷ words) =
    bench_line (entry_for source_type_words source_type) (entry_for kept_words kept) (count_in most_passes passes)
    (rule_in words)

-- the line that the words of a run are
abbrev pub bench_line_of : List (String Global) → Option BenchLine
bench_line_of words = bench_line_in (map string_bytes words)
