-- The words of the program, and what they mean.
use Rattle.std.specs.Prelude.{ℕ, String, map, string_bytes, List, [], ◌∷◌, codes, Option, Some, None, Bool}
use Rattle.std.specs.Prelude.{if◌then◌else◌, length, nat_lt}
use Rattle.std.specs.declared.alloc.Global.{Global}
use Rattle.std.specs.List.{position_or_len, before_first, after_first}
use Rattle.std.specs.Str.{bytes_eq}
use Rattle.js_text.specs.declared.source_type.SourceType.{SourceType}
use Rattle.js_session.specs.declared.command.Command.{Command}
use Rattle.js_lex_tool.specs.Words.{allowed_commands_in, entry_for, number_in, source_type_words}

-- What the words of a run mean: the commands of the old text, the edit, and the commands of the new text.
pub record EditWords : Type 0 where
  pub source_type : SourceType
  pub start : ℕ
  pub end : ℕ
  pub text : List ℕ
  pub commands : List Command
  pub new_commands : List Command

-- a place of a text: a number up to the greatest `u32`
abbrev pub place_in : List ℕ → Option ℕ
place_in word = number_in 4294967295 word

-- the word that stands between the commands of the old text and those of the new one
abbrev pub is_dashes : List ℕ → Bool
is_dashes word = bytes_eq word (codes "--")

-- the command words of the old text
abbrev pub old_words : List (List ℕ) → List (List ℕ)
old_words words = before_first is_dashes words

-- the command words of the new text: without `--` they are those of the old one
abbrev pub new_words : List (List ℕ) → List (List ℕ)
new_words words =
    if nat_lt (position_or_len is_dashes words) (length words) then after_first is_dashes words else words

-- what these parts mean, where each is there
abbrev pub edit_words : Option SourceType → Option ℕ → Option ℕ → List ℕ → Option (List Command)
    → Option (List Command) → Option EditWords
edit_words None start end text commands new_commands = None
edit_words (Some source_type) None end text commands new_commands = None
edit_words (Some source_type) (Some start) None text commands new_commands = None
edit_words (Some source_type) (Some start) (Some end) text None new_commands = None
edit_words (Some source_type) (Some start) (Some end) text (Some commands) None = None
edit_words (Some source_type) (Some start) (Some end) text (Some commands) (Some new_commands) = Some (record {
  source_type = source_type;
  start = start;
  end = end;
  text = text;
  commands = commands;
  new_commands = new_commands;
})

-- what words mean: a source type, the places and the text of an edit, and commands
abbrev pub edit_words_in : List (List ℕ) → Option EditWords
edit_words_in [] = None
edit_words_in (source_type ∷ []) = None
edit_words_in (source_type ∷ start ∷ []) = None
edit_words_in (source_type ∷ start ∷ end ∷ []) = None
edit_words_in (source_type ∷ start ∷ end ∷ text ∷ words) =
    edit_words (entry_for source_type_words source_type) (place_in start) (place_in end) text
    (allowed_commands_in (old_words words)) (allowed_commands_in (new_words words))

-- what the words of a run mean
abbrev pub edit_words_of : List (String Global) → Option EditWords
edit_words_of words = edit_words_in (map string_bytes words)
