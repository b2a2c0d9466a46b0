-- The text of a document reads back as its value.
use Rattle.std.proofs.Common.{◌≡◌, ◌≤◌, ℕ, suc, max, List, [], ◌∷◌, ◌++◌, map, Bool, true, false, cond, ◌&&◌, Some, option_and_then, IsUtf8, refl, sym, ap, ap₂, ◌∙◌, arith, append_assoc, append-nil, subst}
use Rattle.std.proofs.lemmas.Str.{IsUtf8-append}
use Rattle.json.specs.Token.{Token, begin_object, end_object, begin_array, end_array, key, bad}
use Rattle.json.specs.Token as lexed
use Rattle.json.specs.Word.{ends_word, word}
use Rattle.json.specs.Lex.{Lexeme, token, comma, colon, string_token, lex, between, fresh, punctuate, tokens}
use Rattle.json.specs.Json as json
use Rattle.json.specs.Print.{escape, quoted, token_text, begins, ends, separator, print_from, print, IsPrintable, ArePrintable}
use Rattle.json.specs.Tree as tree
use Rattle.json.specs.Written as writer
use Rattle.json.proofs.Numbered.{ArePrintableOrBad-tokens, value-HasNumbers}
use Rattle.json.proofs.Printed.Numbers.{lex-number, in_word-ended}
use Rattle.json.proofs.Printed.Strings.{content-escape, lex-escape}
use Rattle.json.proofs.Printed.Trees.{value-json_tokens, ArePrintable-json_tokens}
use Rattle.json.proofs.Printed.Utf8.{IsUtf8-are_ascii}
use Rattle.machine.specs.declared.reads.ReadAnswer.{ReadAnswer}
use Rattle.machine.specs.declared.reads.ReadAnswer.TheVariants as answer
use Rattle.machine.specs.declared.reply.Reply.{Reply}
use Rattle.machine.specs.declared.reply.Reply.TheVariants as reply
use Rattle.machine.specs.declared.reply.Transcript.{Transcript}
use Rattle.script.specs.ScriptDocument.{document}
use Rattle.script.specs.TranscriptDocument.{whole, span_value, part_value, answer_value, reply_value, replies_value, transcript_value}
use Rattle.script.proofs.Documents.{document_is}
use Rattle.script.specs.Written.{tokens_of, WritesValue}
use Rattle.serde_json.specs.Data.{Data, null, boolean, number, string, array, object, Items, no_items, item, Members, no_members, member, depth, items_depth, members_depth}
use Rattle.serde_json.specs.Read.{read, max_depth, of_json}
use Rattle.serde_json.specs.View.{items_of}
use Rattle.serde_json.specs.Written.{outline, items_outline, members_outline}

-- ---- how deep the value of a transcript is

pub list-depth : {A : Type 0} (value : A → Data) (n : ℕ) → ((x : A) → depth (value x) ≤ n) → (xs : List A) → items_depth (items_of (map value xs)) ≤ n
list-depth value n each [] = omega arith
list-depth value n each (x ∷ xs) = omega (arith, each x, list-depth value n each xs)

answer-depth : (a : ReadAnswer) → depth (answer_value a) ≤ 3
answer-depth (answer.Size extent units) = omega arith
answer-depth (answer.Text text units) = omega arith
answer-depth (answer.Found count hits) = omega (arith, list-depth span_value 1 (λ s. omega arith) hits)
answer-depth (answer.Saved bytes) = omega arith

reply-depth : (r : Reply) → depth (reply_value r) ≤ 5
reply-depth (reply.Batched at edits) = omega (arith, list-depth part_value 2 (λ p. omega arith) edits)
reply-depth (reply.Marks at ids) = omega (arith, list-depth whole 0 (λ n. omega arith) ids)
reply-depth (reply.Answered answers) = omega (arith, list-depth answer_value 3 answer-depth answers)
reply-depth r = omega arith

replies-depth : (rs : List Reply) → depth (replies_value rs) ≤ 6
replies-depth rs = omega (arith, list-depth reply_value 5 reply-depth rs)

pub transcript_value_depth : (t : Transcript) → depth (transcript_value t) ≤ max_depth
transcript_value_depth t = omega (arith, list-depth replies_value 6 replies-depth t.sessions)

-- ---- a printed text has the same lexemes with white space behind it

read_quoted : (s r : List ℕ) → lex between (quoted s ++ r) ≡ token (lexed.string s) ∷ lex between r
unfolding lex
read_quoted s r =
    ap (λ l. lex between (34 ∷ l)) (append_assoc (escape s) (34 ∷ []) r)
    ∙ ap₂ (λ o l. token (string_token o) ∷ l) (content-escape s r) (lex-escape s r)

-- The lexemes of a token are the same before any text; one that ends a value needs a text that ends a word.
read_token : (t : Token) → IsPrintable t → (ls : List Lexeme) × ((r : List ℕ) → (ends t ≡ true → ends_word r ≡ true) → lex between (token_text t ++ r) ≡ ls ++ lex between r)
unfolding lex word
read_token begin_object h = (token begin_object ∷ [], λ r ended. refl)
read_token end_object h = (token end_object ∷ [], λ r ended. refl)
read_token begin_array h = (token begin_array ∷ [], λ r ended. refl)
read_token end_array h = (token end_array ∷ [], λ r ended. refl)
read_token (key s) h = (token (lexed.string s) ∷ colon ∷ [], λ r ended. ap (lex between) (append_assoc (quoted s) (58 ∷ []) r) ∙ read_quoted s (58 ∷ r))
read_token (lexed.string s) h = (token (lexed.string s) ∷ [], λ r ended. read_quoted s r)
read_token (lexed.number s) h = (token (lexed.number s) ∷ [], λ r ended. lex-number s r h (ended refl))
read_token (lexed.boolean true) h = (token (lexed.boolean true) ∷ [], λ r ended. ap₂ (λ b l. token (cond b (lexed.boolean true) bad) ∷ l) (ended refl) (in_word-ended r (ended refl)))
read_token (lexed.boolean false) h = (token (lexed.boolean false) ∷ [], λ r ended. ap₂ (λ b l. token (cond b (lexed.boolean false) bad) ∷ l) (ended refl) (in_word-ended r (ended refl)))
read_token lexed.null h = (token lexed.null ∷ [], λ r ended. ap₂ (λ b l. token (cond b lexed.null bad) ∷ l) (ended refl) (in_word-ended r (ended refl)))
read_token bad h = absurd h

-- after a value stands a comma, a closing bracket or the text behind
after_value_ends : (ts : List Token) (r : List ℕ) → ends_word r ≡ true → ends_word (print_from true ts ++ r) ≡ true
unfolding print_from
after_value_ends [] r e = e
after_value_ends (begin_object ∷ ts) r e = refl
after_value_ends (end_object ∷ ts) r e = refl
after_value_ends (begin_array ∷ ts) r e = refl
after_value_ends (end_array ∷ ts) r e = refl
after_value_ends (key s ∷ ts) r e = refl
after_value_ends (lexed.string s ∷ ts) r e = refl
after_value_ends (lexed.number s ∷ ts) r e = refl
after_value_ends (lexed.boolean b ∷ ts) r e = refl
after_value_ends (lexed.null ∷ ts) r e = refl
after_value_ends (bad ∷ ts) r e = refl

regroup : (a b c r : List ℕ) → (a ++ (b ++ c)) ++ r ≡ a ++ (b ++ (c ++ r))
regroup a b c r = simp append_assoc

-- r and s may stand behind a printed text, and both end a word and have the same lexemes
module _ (r s : List ℕ) (first : ends_word r ≡ true) (second : ends_word s ≡ true) (same : lex between r ≡ lex between s) where
  separator_alike : (b : Bool) (x y : List ℕ) → lex between x ≡ lex between y → lex between (cond b (44 ∷ []) [] ++ x) ≡ lex between (cond b (44 ∷ []) [] ++ y)
  unfolding lex
  separator_alike true x y e = ap (λ l. comma ∷ l) e
  separator_alike false x y e = e

  print_alike : (c : Bool) (ts : List Token) → ArePrintable ts → lex between (print_from c ts ++ r) ≡ lex between (print_from c ts ++ s)
  unfolding print_from ArePrintable
  print_alike c [] h = same
  print_alike c (t ∷ ts) h =
      let p = print_from (ends t) ts in
      let one = read_token t h.0 in
      let before : lex between (token_text t ++ (p ++ r)) ≡ one.0 ++ lex between (p ++ r) = one.1 (p ++ r) (λ e. ap (λ b. ends_word (print_from b ts ++ r)) e ∙ after_value_ends ts r first) in
      let after : lex between (token_text t ++ (p ++ s)) ≡ one.0 ++ lex between (p ++ s) = one.1 (p ++ s) (λ e. ap (λ b. ends_word (print_from b ts ++ s)) e ∙ after_value_ends ts s second) in
      ap (lex between) (regroup (separator c t) (token_text t) p r)
      ∙ separator_alike (c && begins t) _ _ (before ∙ ap (λ l. one.0 ++ l) (print_alike (ends t) ts h.1) ∙ sym after)
      ∙ sym (ap (lex between) (regroup (separator c t) (token_text t) p s))

-- ---- a written text has the same tokens with a line feed behind it

-- the tokens of a text are printable where they are those of a JSON value, since the lexer lets only numbers through as numbers
printable : (text : List ℕ) (j : json.Json) → tokens text ≡ tree.json_tokens j → ArePrintable (tokens text)
printable text j e =
    let parsed = ap (json.value (tree.depth j)) (e ∙ sym (append-nil (tree.json_tokens j))) ∙ value-json_tokens j (tree.depth j) [] (omega arith) in
    subst ArePrintable (sym e) (ArePrintable-json_tokens j (value-HasNumbers (tree.depth j) (tokens text) [] j (ArePrintableOrBad-tokens text) parsed))

line_feed_lexes : lex between (10 ∷ []) ≡ lex between []
unfolding lex
line_feed_lexes = refl

tokens-line_feed : (text : List ℕ) (j : json.Json) → text ≡ print (tokens text) → tokens text ≡ tree.json_tokens j → tokens (text ++ 10 ∷ []) ≡ tokens text
tokens-line_feed text j written e =
    let p = print (tokens text) in
    ap (punctuate fresh)
    (ap (λ t. lex between (t ++ 10 ∷ [])) written ∙ print_alike (10 ∷ []) [] refl refl line_feed_lexes false (tokens text) (printable text j e)
    ∙ ap (lex between) (append-nil p ∙ sym written))

-- ---- the whole

mutual
  outline-depth : (d : Data) → tree.depth (outline d) ≡ depth d
  outline-depth null = refl
  outline-depth (boolean b) = refl
  outline-depth (number n) = refl
  outline-depth (string s) = refl
  outline-depth (array ds) = ap suc (items_outline-depth ds)
  outline-depth (object ms) = ap suc (members_outline-depth ms)

  items_outline-depth : (ds : Items) → tree.items_depth (items_outline ds) ≡ items_depth ds
  items_outline-depth no_items = refl
  items_outline-depth (item d ds) = ap₂ max (outline-depth d) (items_outline-depth ds)

  members_outline-depth : (ms : Members) → tree.members_depth (members_outline ms) ≡ members_depth ms
  members_outline-depth no_members = refl
  members_outline-depth (member k d ms) = ap₂ max (outline-depth d) (members_outline-depth ms)

line_feed_is_utf8 : IsUtf8 (10 ∷ [])
line_feed_is_utf8 = IsUtf8-are_ascii (10 ∷ []) refl

-- the tokens of a value that is no deeper than what is read, printed with a line feed behind them, are a document with that value
pub value_reads_back : (d : Data) (start end : writer.Written) (bytes all : List ℕ) → depth d ≤ max_depth → start.before ≡ [] → start.tokens ≡ [] → WritesValue start end d
    → bytes ≡ end.before ++ print end.tokens → tokens (print end.tokens) ≡ end.tokens → IsUtf8 (print end.tokens) → all ≡ bytes ++ 10 ∷ [] → document all ≡ Some d
value_reads_back d start end bytes all deep before none w is same utf8 last =
    let text = print end.tokens in
    let printed : bytes ≡ text = is ∙ ap (λ b. b ++ text) (w.adds.before ∙ before) in
    let there : tokens text ≡ tokens_of d = same ∙ w.adds.tokens ∙ ap (λ ts. ts ++ tokens_of d) none in
    let fed = tokens-line_feed text (outline d) (ap print (sym same)) there ∙ there in
    let parsed = ap (json.value max_depth) (fed ∙ sym (append-nil (tokens_of d))) ∙ value-json_tokens (outline d) max_depth [] (omega (arith, outline-depth d, deep)) in
    let back : read (text ++ 10 ∷ []) ≡ Some d = ap (λ r. option_and_then of_json (option_and_then (λ p. json.if_last p.0 p.1) r)) parsed ∙ w.readable in
    ap document (last ∙ ap (λ b. b ++ 10 ∷ []) printed) ∙ document_is (text ++ 10 ∷ []) (Some d) (IsUtf8-append text (10 ∷ []) utf8 line_feed_is_utf8) back
