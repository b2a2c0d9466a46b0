-- The calls of a transcript, made again one after the other.
use Rattle.std.proofs.Common.{◌≡◌, ℕ, suc, ◌+◌, ◌<◌, List, [], ◌∷◌, length, get_or, Option, Some, refl, sym, ◌∙◌, ap, subst, arith}
use Rattle.std.proofs.lemmas.Option.{slice_get-get_or}
use Rattle.std.specs.Prelude.{slice_get}
use Rattle.machine.specs.declared.reply.Reply.{Reply}
use Rattle.machine.specs.Machine.{State, Call, Answer, Edited, Batched, Shown, Done, Ranged, Found, Compared, Heard, Refused, step}
use Rattle.machine.specs.Answers.{reply_of}
use Rattle.machine.specs.Lawful.{Entry, numbered, state_after, after_entry, IsReplyAt}
use Rattle.machine.specs.FirstFault.{AgreesAt}
use Rattle.plain_replay.specs.Replayed.{replied}
use Rattle.transcript_check.specs.Order.{IsOrder}
use Rattle.transcript_check.specs.Versions.{in_version}

version_reply : (version at : ℕ) (a : Answer) → in_version version (reply_of 2 at a) ≡ reply_of version at a
version_reply version at (Edited p) = refl
version_reply version at (Batched []) = refl
version_reply version at (Batched (p ∷ ps)) = refl
version_reply version at (Shown units n) = refl
version_reply version at Done = refl
version_reply version at (Ranged start end exclusive) = refl
version_reply version at (Found ids) = refl
version_reply version at (Compared order) = refl
version_reply version at (Heard heard) = refl
version_reply version at (Refused why) = refl

-- what a step of the running code makes of a call
pub stepped : (s t : State) (r : Reply) (o : Option Call) (call : Call) → o ≡ Some call → (t, r) ≡ replied s o → t ≡ (step s call).0
stepped s t r o call is done = ap (λ (p : State × Reply). p.0) (done ∙ ap (replied s) is)

pub replied_as : (version : ℕ) (s t : State) (r shown : Reply) (o : Option Call) (call : Call) → o ≡ Some call → (t, r) ≡ replied s o → shown ≡ in_version version r → shown ≡ reply_of version (s.count + 1) (step s call).1
replied_as version s t r shown o call is done as_ = as_ ∙ ap (λ (p : State × Reply). in_version version p.1) (done ∙ ap (replied s) is) ∙ version_reply version (s.count + 1) (step s call).1

-- the call with a number
pub numbered_is : (es : List Entry) (order : List ℕ) (i j : ℕ) (e : Entry) → IsOrder es order → i < length es → j ≡ get_or order i 0 → e ≡ get_or es j e → numbered es (i + 1) ≡ Some e
numbered_is es order i j e o within at is =
    sym (o.each i within) ∙ ap (λ k. slice_get es k) (sym at) ∙ slice_get-get_or es j e (subst (λ k. k < length es) (sym at) (o.within i within)) ∙ ap (λ x. Some x) (sym is)

-- the state behind it
pub next_state : (s here : State) (es : List Entry) (i : ℕ) (e : Entry) → numbered es (i + 1) ≡ Some e → here ≡ state_after s es i → (step here e.call).0 ≡ state_after s es (i + 1)
next_state s here es i e is at =
    let one : suc i ≡ i + 1 = omega arith in
    ap (λ x. (step x e.call).0) at ∙ ap (after_entry (state_after s es i)) (sym is) ∙ ap (λ n. after_entry (state_after s es i) (numbered es n)) (sym one) ∙ ap (state_after s es) one

-- and whether its reply is the machine's
pub agrees_at : (version : ℕ) (s here : State) (es : List Entry) (i : ℕ) (e : Entry) → numbered es (i + 1) ≡ Some e → here ≡ state_after s es i → here.count ≡ i
    → e.reply ≡ reply_of version (here.count + 1) (step here e.call).1 → AgreesAt version s es i
agrees_at version s here es i e is at count same =
    subst (IsReplyAt version (i + 1) (state_after s es i)) (sym is) (same ∙ ap (λ n. reply_of version (n + 1) (step here e.call).1) count ∙ ap (λ x. reply_of version (i + 1) (step x e.call).1) at)

pub differs_at : (version : ℕ) (s here : State) (es : List Entry) (i : ℕ) (e : Entry) → numbered es (i + 1) ≡ Some e → here ≡ state_after s es i → here.count ≡ i
    → (e.reply ≡ reply_of version (here.count + 1) (step here e.call).1 → ⊥) → AgreesAt version s es i → ⊥
differs_at version s here es i e is at count apart agree =
    apart (subst (IsReplyAt version (i + 1) (state_after s es i)) is agree ∙ ap (λ x. reply_of version (i + 1) (step x e.call).1) (sym at) ∙ ap (λ n. reply_of version (n + 1) (step here e.call).1) (sym count))
