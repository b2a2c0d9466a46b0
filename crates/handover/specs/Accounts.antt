-- Accounts of a queue, and the rule that they keep.
use Rattle.std.specs.Prelude.{◌≡◌, ℕ, ◌+◌, ◌^◌, List, [], ◌∷◌, ◌++◌, ⊤}
use Rattle.std.specs.List.{flat_map}
use Rattle.std.specs.List.Sorted.{IsPermutation}
use Rattle.handover.specs.declared.rule.Share.{Share}

-- how many parts there are of the right to know the whole: more than there can be threads
abbrev pub ALL_PARTS : ℕ
ALL_PARTS = 2 ^ 65

module _ {T : Type 0} where
  abbrev pub share : ℕ → List T → List T → Share T
  share parts put taken = record { parts = parts; put = put; taken = taken }

  -- one item more was put, or taken
  abbrev pub with_put : Share T → T → Share T
  with_put v x = share v.parts (v.put ++ x ∷ []) v.taken

  abbrev pub with_taken : Share T → T → Share T
  with_taken v x = share v.parts v.put (v.taken ++ x ∷ [])

  -- all parts, all that was put and all that was taken, account after account
  abbrev pub all_parts : List (Share T) → ℕ
  all_parts [] = 0
  all_parts (v ∷ vs) = v.parts + all_parts vs

  abbrev pub all_put : List (Share T) → List T
  all_put = flat_map (λ v. v.put)

  abbrev pub all_taken : List (Share T) → List T
  all_taken = flat_map (λ v. v.taken)

  -- an account with no part shows nothing
  abbrev pub AreIdle : List (Share T) → Type 0
  AreIdle [] = ⊤
  AreIdle (v ∷ vs) = (v.parts ≡ 0 → (v.put ≡ []) × (v.taken ≡ [])) × AreIdle vs

  -- the items that were put are those that were taken and those in the queue, each as often
  pub record Balanced (items : List T) (views : List (Share T)) : Type 0 where
    pub whole : all_parts views ≡ ALL_PARTS
    pub kept : IsPermutation (all_put views) (all_taken views ++ items)
    pub idle : AreIdle views

  -- The account with every part shows the whole: what it put is what it took and what is in the queue
  abbrev pub Learned : Share T → List T → Type 0
  Learned v items = v.parts ≡ ALL_PARTS → IsPermutation v.put (v.taken ++ items)
