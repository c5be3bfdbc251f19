-- Lines of passes.
use Rattle.std.proofs.Common.{◌≡◌, ℕ, zero, suc, ◌+◌, ◌<◌, Bool, true, false, List, [], ◌++◌, length, refl, sym, ◌∙◌}
use Rattle.std.proofs.Common.{ap, arith}
use Rattle.std.proofs.lemmas.List.{flat_map_more, replicate_more}
use Rattle.std.specs.List.{flat_map}
use Rattle.std.specs.Prelude.{replicate}
use Rattle.js_text.specs.declared.source_type.SourceType.{SourceType}
use Rattle.js_choose.specs.Rules.{IsRule, Rule}
use Rattle.js_choose.proofs.ChosenLemmas.{one_list}
use Rattle.js_auto.specs.DueLemmas.{each_is_due as each_is_due_by_auto}
use Rattle.js_jsx.specs.DueLemmas.{each_is_due as each_is_due_by_jsx}
use Rattle.js_bench.specs.Counts.{IsListingOf, IsPass, IsPassOver, counts_of, counts_of_lists, rule_of}
use Rattle.js_bench.specs.Run.{HasPasses, IsPassOf, pass_line}
use Rattle.js_bench.specs.declared.pass.GoalRule.{GoalRule}
use Rattle.js_bench.specs.declared.pass.GoalRule.TheVariants.{Auto, Jsx}
use Rattle.js_bench.specs.declared.pass.Kept.{Kept}
use Rattle.js_bench.specs.declared.pass.Kept.TheVariants.{Nothing, Tokens, Lists}
use Rattle.js_bench.specs.declared.pass.PassCounts.{PassCounts}
use Rattle.js_bench.specs.declared.words.BenchLine.{BenchLine}

-- no line yet
pub no_passes : (line : BenchLine) (source : List ℕ) (text : List ℕ) → text ≡ [] → HasPasses line source 0 text
no_passes line source text is = record {
  counts = record { tokens = 0; comments = 0; diagnostics = 0 };
  counted = λ some. absurd (omega (arith, some));
  lines = is;
}

-- each command that is chosen may come
rule_is : (rule : GoalRule) → IsRule (rule_of rule)
rule_is Auto = each_is_due_by_auto
rule_is Jsx = each_is_due_by_jsx

-- each pass over a source counts the same
one_count : (rule : Rule) → IsRule rule → (source : List ℕ) (t : SourceType) (collects : Bool) (a b : PassCounts)
    → IsPassOver rule source t collects a → IsPassOver rule source t collects b → a ≡ b
one_count rule law source t collects a b h g =
    h.counts_are
    ∙ ap counts_of
    (one_list rule law source t collects h.commands g.commands h.report g.report h.report_is g.report_is).1
    ∙ sym g.counts_are

-- what is listed is what is live of the report
listed_is_live : (rule : Rule) (source : List ℕ) (t : SourceType) (counts : PassCounts)
    → IsListingOf rule source t counts → IsPassOver rule source t false counts
listed_is_live rule source t counts h =
    let lists = h.lists in
    let live = h.lists_are in
    let found = live.are_lists.found_is in
    record {
      commands = live.commands;
      report = live.report;
      report_is = live.report_is;
      counts_are =
          h.counts_are
          ∙ same_counts (counts_of_lists lists) (counts_of live.report) (ap length live.are_lists.tokens_are)
          (ap (λ f. length f.comments) found) (ap (λ f. length f.diagnostics) found);
    }
  where
    same_counts : (a b : PassCounts) → a.tokens ≡ b.tokens → a.comments ≡ b.comments → a.diagnostics ≡ b.diagnostics
        → a ≡ b
    same_counts a b e1 e2 e3 = rw (e1, e2, e3) refl

one_pass : (kept : Kept) (rule : Rule) → IsRule rule → (source : List ℕ) (t : SourceType) (a b : PassCounts)
    → IsPass kept rule source t a → IsPass kept rule source t b → a ≡ b
one_pass Nothing rule law source t a b h g = one_count rule law source t false a b h g
one_pass Tokens rule law source t a b h g = one_count rule law source t true a b h g
one_pass Lists rule law source t a b h g =
    one_count rule law source t false a b (listed_is_live rule source t a h) (listed_is_live rule source t b g)

same_lines : (passes : ℕ) (a b : PassCounts) → (0 < passes → a ≡ b) → replicate passes a ≡ replicate passes b
same_lines zero a b same = refl
same_lines (suc n) a b same = ap (replicate (suc n)) (same (omega arith))

-- one more line, for one more pass
pub one_more : (line : BenchLine) (source : List ℕ) (passes : ℕ) (text new : List ℕ) (counts : PassCounts)
    → HasPasses line source passes text → IsPassOf line source counts → new ≡ text ++ pass_line counts
    → HasPasses line source (passes + 1) new
one_more line source passes text new counts h is more =
    let one =
    λ (some : 0 < passes). one_pass line.kept (rule_of line.rule) (rule_is line.rule) source line.source_type h.counts
    counts (h.counted some) is in
    let same = same_lines passes h.counts counts one in
    record {
      counts = counts;
      counted = λ some. is;
      lines =
          more ∙ ap (λ x. x ++ pass_line counts) (h.lines ∙ ap (flat_map pass_line) same)
          ∙ flat_map_more pass_line [] (replicate passes counts) counts
          ∙ ap (flat_map pass_line) (replicate_more passes counts);
    }
