-- What a call of the table tells of a shared buffer.
use Rattle.std.proofs.Common.{◌≡◌, ℕ, ◌<◌, Bool, true, false, cond, nat_lt, List, [], ◌∷◌, ◌++◌, Option, None, Some, refl, ap, sym, subst, ◌∙◌, arith, append_assoc}
use Rattle.std.specs.Prelude.{filter}
use Rattle.std.proofs.lemmas.Bool.Decides.{nat_tests}
use Rattle.std.proofs.lemmas.List.{append-nil}
use Rattle.points.specs.declared.limits.TheConstants.{LAST}
use Rattle.atomic_table.specs.declared.badge.Badge.{Badge}
use Rattle.machine.specs.declared.command.Command.{Command}
use Rattle.machine.specs.declared.reply.Reply.{Reply}
use Rattle.machine.specs.Plain.{plain_reply}
use Rattle.turn_table.specs.Meaning.{MayFollow, lowest, HasRoom}
use Rattle.turn_table.specs.History.{entry}
use Rattle.turn_table.specs.declared.view.Role.{Role}
use Rattle.turn_table.specs.declared.view.Role.TheVariants.{Desk, Hand, Deals, Nothing}
use Rattle.turn_table.specs.Views.{view, hand, caller, added, stands_for, Mine}
use Rattle.turn_table.specs.Tokens.{is_own}
use Rattle.turn_table.specs.Given.{one_view}
use Rattle.turn_table.specs.Calls.{Turned, Took, Looked}
use Rattle.turn_table.proofs.HistoryLemmas.{state_after-append}
use Rattle.turn_table.proofs.DeskLemmas.{turned_as}
use Rattle.turn_table.proofs.GivenLemmas.{has_hand_in}
use Rattle.shared_buffer.specs.Entries.{Shared, Entry, called, handed, taken, finished, is_numbered, said, Meets, free_of, free_number}
use Rattle.shared_buffer.specs.Tokens.{Opening, Known, Line, rules, behind, own_calls, IsSeatOf, Called, Stays, IsSpent, IsHanded, IsFull, IsEntered, IsTaken, IsFinished}

said_some : (b : Bool) (a r : Reply) → Some r ≡ cond b (Some a) None → (b ≡ true) × (r ≡ a)
said_some true a r e = (refl, cc)
said_some false a r e = absurd cc

said_none : (b : Bool) (a : Reply) → None ≡ cond b (Some a) None → b ≡ false
said_none true a e = absurd cc
said_none false a e = refl

-- an entry without a number leaves the role of its seat
same_role : (o : Opening) (r : Role Entry) (e : Line) → is_numbered e.told ≡ false → added (rules o) r e ≡ r
same_role o (Desk d) e plain = rw plain refl
same_role o (Hand h) e plain = refl
same_role o (Deals d) e plain = refl
same_role o Nothing e plain = refl

module _ (o : Opening) where
  -- one call of a desk
  abbrev pub Takes : Option Known → Entry → Known → Known → Type 0
  Takes given t v w = Took (rules o) (MayFollow (rules o) Meets) o.start o.desks None given t v w

  pub called_of : (c : Command) (r : Reply) (given : Option Known) (v w : Known) → Takes given (called c (Some r)) v w → Called o c r v w
  called_of c r given v w took =
      let x = behind o (v.seen ++ took.between) in
      let e : called c (Some r) ≡ called c (said o.version x.plain c) = took.legal in
      let s : Some r ≡ said o.version x.plain c = cc (e) in
      let both = said_some (nat_lt x.plain.count LAST) (plain_reply o.version x.plain [] [] c) r s in
      record { between = took.between; seen = took.seen; left = both.0; reply = both.1; role = took.role; mine = took.mine refl; informed = took.knows }

  pub stays_looked : (v w : Known) → Looked (rules o) (MayFollow (rules o) Meets) o.start o.desks v w → Stays o v w
  stays_looked v w looked = record { seen = looked.seen; role = looked.role; mine = looked.mine; informed = looked.knows }

  -- an entry without a number
  stays_took : (t : Entry) (given : Option Known) (v w : Known) → is_numbered t ≡ false → Takes given t v w → Stays o v w
  stays_took t given v w plain took = let more : List Line = entry (caller v.role) t ∷ [] in record {
    seen = (took.between ++ more, sym (append_assoc v.seen took.between more) ∙ sym took.seen);
    role = took.role ∙ same_role o v.role (entry (caller v.role) t) plain;
    mine = took.mine refl ∙ (ap (λ b. own_calls o v ++ cond b more []) plain ∙ append-nil (own_calls o v));
    informed = took.knows;
  }

  -- the state behind an entry that leaves it
  still : (t : Entry) (given : Option Known) (v w : Known) (took : Takes given t v w) → (rules o).after (behind o (v.seen ++ took.between)) t ≡ behind o (v.seen ++ took.between) → behind o w.seen ≡ behind o (v.seen ++ took.between)
  still t given v w took same = ap (behind o) took.seen ∙ (state_after-append (rules o) o.start (v.seen ++ took.between) (entry (caller v.role) t ∷ []) ∙ same)

  pub spent_of : (c : Command) (given : Option Known) (v w : Known) → Takes given (called c None) v w → IsSpent o v w
  spent_of c given v w took =
      let x = behind o (v.seen ++ took.between) in
      let e : called c None ≡ called c (said o.version x.plain c) = took.legal in
      let s : None ≡ said o.version x.plain c = cc (e) in
      record {
        stays = stays_took (called c None) given v w refl took;
        none = ap (λ (y : Shared). nat_lt y.plain.count LAST) (still (called c None) given v w took refl) ∙ said_none (nat_lt x.plain.count LAST) (plain_reply o.version x.plain [] [] c) s;
      }

  pub handed_of : (n : ℕ) (given : Option Known) (v w : Known) → Takes given (handed (Some n)) v w → IsHanded o n v w
  handed_of n given v w took =
      let x = behind o (v.seen ++ took.between) in
      let e : handed (Some n) ≡ handed (free_number x) = took.legal in
      record {
        stays = stays_took (handed (Some n)) given v w refl took;
        before = v.seen ++ took.between;
        seen = took.seen;
        begun = (took.between, refl);
        lowest = cc (e);
      }

  pub full_of : (given : Option Known) (v w : Known) → Takes given (handed None) v w → IsFull o v w
  full_of given v w took =
      let x = behind o (v.seen ++ took.between) in
      let e : handed None ≡ handed (free_number x) = took.legal in
      let none : free_number x ≡ None = cc (e) in
      record {
        stays = stays_took (handed None) given v w refl took;
        full = ap free_number (still (handed None) given v w took refl) ∙ none;
      }

  number_is : (x : Shared) (k : ℕ) → HasRoom (rules o) x → handed (Some k) ≡ handed (free_number x) → lowest (rules o) x ≡ k
  number_is x k room e = let one_free : free_number x ≡ Some (free_of x) = ap (λ b. cond b (Some (free_of x)) None) (below (free_of x) 32 room) in let same : Some k ≡ free_number x = cc (e) in cc (same, one_free) where
    below : (a b : ℕ) → a < b → nat_lt a b ≡ true
    below a b h = grind (arith, nat_tests)

  -- the seat of the hand that a call made
  pub seat_of : (h : Badge Known) (n : ℕ) (v w : Known) → h.table_id ≡ o.table → Takes (Some (one_view h.views)) (handed (Some n)) v w → IsSeatOf o n h
  seat_of h n v w own took =
      let before = v.seen ++ took.between in
      let x = behind o before in
      let number : lowest (rules o) x ≡ n = number_is x n took.hand_is.1 took.legal in
      (own, has_hand_in h.views before n (took.hand_is.0 ∙ ap (λ k. view before (hand k) None) number))

  -- ---- the same of the one view of a badge

  pub called_turned : (c : Command) (r : Reply) (given : Option Known) (old new : List Known) → Turned (Takes given (called c (Some r))) old new → Turned (Called o c r) old new
  called_turned c r given old new t = turned_as (Takes given (called c (Some r))) (Called o c r) old new t (λ v w took. called_of c r given v w took)

  pub spent_turned : (c : Command) (given : Option Known) (old new : List Known) → Turned (Takes given (called c None)) old new → Turned (IsSpent o) old new
  spent_turned c given old new t = turned_as (Takes given (called c None)) (IsSpent o) old new t (λ v w took. spent_of c given v w took)

  pub stays_turned : (old new : List Known) → Turned (Looked (rules o) (MayFollow (rules o) Meets) o.start o.desks) old new → Turned (Stays o) old new
  stays_turned old new t = turned_as (Looked (rules o) (MayFollow (rules o) Meets) o.start o.desks) (Stays o) old new t (λ v w looked. stays_looked v w looked)

  pub handed_turned : (n : ℕ) (given : Option Known) (old new : List Known) → Turned (Takes given (handed (Some n))) old new → Turned (IsHanded o n) old new
  handed_turned n given old new t = turned_as (Takes given (handed (Some n))) (IsHanded o n) old new t (λ v w took. handed_of n given v w took)

  pub full_turned : (given : Option Known) (old new : List Known) → Turned (Takes given (handed None)) old new → Turned (IsFull o) old new
  full_turned given old new t = turned_as (Takes given (handed None)) (IsFull o) old new t (λ v w took. full_of given v w took)

  -- a call that found no number left is one that stays
  pub none_stays : (old new : List Known) → Turned (IsSpent o) old new → Turned (Stays o) old new
  none_stays old new t = turned_as (IsSpent o) (Stays o) old new t (λ v w spent. spent.stays)

  pub full_stays : (old new : List Known) → Turned (IsFull o) old new → Turned (Stays o) old new
  full_stays old new t = turned_as (IsFull o) (Stays o) old new t (λ v w full. full.stays)

  -- ---- what the state doesn't fix

  pub entered_of : (t : Entry) (given : Option Known) (v w : Known) → is_numbered t ≡ false → Takes given t v w → IsEntered o t v w
  entered_of t given v w plain took = record {
    stays = stays_took t given v w plain took;
    before = v.seen ++ took.between;
    seen = took.seen;
    begun = (took.between, refl);
  }

  -- ---- a snapshot

  pub taken_of : (text : List ℕ) (version : ℕ) (given : Option Known) (v w : Known) → Takes given (taken text version) v w → IsTaken o text version v w
  taken_of text version given v w took =
      let x = behind o (v.seen ++ took.between) in
      let e : taken text version ≡ taken x.plain.text x.plain.version = took.legal in
      record {
        stays = stays_took (taken text version) given v w refl took;
        front = v.seen ++ took.between;
        floor = (took.between, refl);
        seen = (entry (caller v.role) (taken text version) ∷ [], sym took.seen);
        text_is = cc (e);
        version_is = cc (e);
      }

  -- ---- the end

  pub finished_of : (text : List ℕ) (count : ℕ) (given : Option Known) (v w : Known) → Takes given (finished text count) v w → IsFinished o text count v
  finished_of text count given v w took =
      let x = behind o (v.seen ++ took.between) in
      let e : finished text count ≡ finished x.plain.text x.plain.count = took.legal in
      let same : behind o w.seen ≡ x = still (finished text count) given v w took refl in
      let stays : Stays o v w = stays_took (finished text count) given v w refl took in
      record {
        log = w.seen;
        begun = stays.seen;
        history = took.knows.legal;
        text_is = let t : text ≡ x.plain.text = cc (e) in t ∙ ap (λ (y : Shared). y.plain.text) (sym same);
        count_is = let n : count ≡ x.plain.count = cc (e) in n ∙ ap (λ (y : Shared). y.plain.count) (sym same);
        own = ap (λ (r : Role Entry). filter (is_own (rules o) r) w.seen) (sym stays.role) ∙ stays.mine;
        parts = subst (λ (r : Role Entry). Mine (rules o) w.seen r) stays.role took.knows.parts;
        callers = took.knows.called;
        whole = λ all. sym (took.knows.whole (λ n below. ap (λ (r : Role Entry). stands_for r n) stays.role ∙ all n below)) ∙ stays.mine;
      }

-- ---- seen from the buffer, which clauses see as an opening

pub spent_here : (o p : Opening) (c : Command) (r : Option Reply) (given : Option Known) (old new : List Known) → o ≡ p → None ≡ r → Turned (Takes o given (called c r)) old new → Turned (IsSpent p) old new
spent_here o p c r given old new same none t = subst (λ (z : Opening). Turned (IsSpent z) old new) same (spent_turned o c given old new (subst (λ (z : Option Reply). Turned (Takes o given (called c z)) old new) (sym none) t))

pub full_here : (o p : Opening) (r : Option ℕ) (given : Option Known) (old new : List Known) → o ≡ p → None ≡ r → Turned (Takes o given (handed r)) old new → Turned (IsFull p) old new
full_here o p r given old new same none t = subst (λ (z : Opening). Turned (IsFull z) old new) same (full_turned o given old new (subst (λ (z : Option ℕ). Turned (Takes o given (handed z)) old new) (sym none) t))

pub finish_here : (o p : Opening) (text : List ℕ) (count : ℕ) (end : List ℕ × ℕ) (given : Option Known) (views : List Known) → o ≡ p → (text, count) ≡ end
    → ((v : Known) → views ≡ v ∷ [] → (w : Known) × Takes o given (finished end.0 end.1) v w) → (v : Known) → views ≡ v ∷ [] → IsFinished p text count v
finish_here o p text count end given views same is all v e =
    let t = all v e in
    let text_is : text ≡ end.0 = ap (λ (x : List ℕ × ℕ). x.0) is in
    let count_is : count ≡ end.1 = ap (λ (x : List ℕ × ℕ). x.1) is in
    subst (λ (z : Opening). IsFinished z text count v) same (rw (text_is, count_is) (finished_of o end.0 end.1 given v t.0 t.1))

pub taken_here : (o p : Opening) (text : List ℕ) (version : ℕ) (shown : List ℕ × ℕ) (given : Option Known) (old new : List Known) → o ≡ p → (text, version) ≡ shown
    → Turned (Takes o given (taken shown.0 shown.1)) old new → Turned (IsTaken p text version) old new
taken_here o p text version shown given old new same is t =
    let text_is : text ≡ shown.0 = ap (λ (x : List ℕ × ℕ). x.0) is in
    let version_is : version ≡ shown.1 = ap (λ (x : List ℕ × ℕ). x.1) is in
    subst (λ (z : Opening). Turned (IsTaken z text version) old new) same
    (rw (text_is, version_is) (turned_as (Takes o given (taken shown.0 shown.1)) (IsTaken o shown.0 shown.1) old new t (λ v w took. taken_of o shown.0 shown.1 given v w took)))

-- where the reply has no reader, the text is empty
pub blank_here : (o p : Opening) (shown : List ℕ × ℕ) (given : Option Known) (old new : List Known) → o ≡ p → Turned (Takes o given (taken shown.0 shown.1)) old new → Turned (Stays p) old new
blank_here o p shown given old new same t = subst (λ (z : Opening). Turned (Stays z) old new) same
    (turned_as (Takes o given (taken shown.0 shown.1)) (Stays o) old new t (λ v w took. (taken_of o shown.0 shown.1 given v w took).stays))

pub entered_here : (o p : Opening) (t : Entry) (given : Option Known) (old new : List Known) → o ≡ p → is_numbered t ≡ false → Turned (Takes o given t) old new → Turned (IsEntered p t) old new
entered_here o p t given old new same plain turned = subst (λ (z : Opening). Turned (IsEntered z t) old new) same (turned_as (Takes o given t) (IsEntered o t) old new turned (λ v w took. entered_of o t given v w plain took))

-- any entry without a number
plain_here : (o p : Opening) (t : Entry) (given : Option Known) (old new : List Known) → o ≡ p → is_numbered t ≡ false → Turned (Takes o given t) old new → Turned (Stays p) old new
plain_here o p t given old new same plain turned = subst (λ (z : Opening). Turned (Stays z) old new) same (turned_as (Takes o given t) (Stays o) old new turned (λ v w took. stays_took o t given v w plain took))
