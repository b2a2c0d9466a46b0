-- Any list of calls leaves at the top what the chain of edits gives.
use Rattle.std.proofs.Common.{◌≡◌, ℕ, suc, zero, ◌<◌, ◌≤◌, List, [], ◌∷◌, ◌++◌, length, map, get_or, refl, sym, ap, ◌∙◌, arith}
use Rattle.std.specs.Prelude.{filter}
use Rattle.places.specs.declared.placed.TopId.{TopId}
use Rattle.places.specs.Placed.{top_id, noted, quieted, narrowed, is_kept}
use Rattle.chains.specs.Layered.{whole_text}
use Rattle.layers.specs.declared.versioned.Versioned.{Versioned}
use Rattle.layers.specs.Unplaced.{Unplaced}
use Rattle.layers.specs.Shelf.{Shelved, top_held, top_text, top_version, installed, based_top}
use Rattle.layers.specs.Events.{Plan, edit, squash, rebase, made, chained, text_after, version_after, Event, build, install, note, quiet, narrow, collect, fresh, built, after_all, AllowsAll, installs}
use Rattle.layers.proofs.LawLemmas.{change_text, squash_text, installed_top, installed_age}
use Rattle.layers.proofs.HandLemmas.{noted_top, quieted_top, narrowed_top, collected_top, noted_id, quieted_id, narrowed_id, collected_id}

-- ---- the text and the version of the chain of edits
pub chained_text : (v : Versioned) (ps : List Plan) → whole_text (chained v ps).layers ≡ text_after (whole_text v.layers) ps
chained_text v [] = refl
chained_text v (edit version e ∷ ps) = chained_text (made v (edit version e)) ps ∙ ap (λ (t : List ℕ). text_after t ps) (change_text v.layers e.0 e.1 e.2)
chained_text v (squash ∷ ps) = chained_text (made v squash) ps ∙ ap (λ (t : List ℕ). text_after t ps) (squash_text v.layers)
chained_text v (rebase ∷ ps) = chained_text (made v rebase) ps

pub chained_version : (v : Versioned) (ps : List Plan) → (chained v ps).version ≡ version_after v.version ps
chained_version v [] = refl
chained_version v (edit version e ∷ ps) = chained_version (made v (edit version e)) ps
chained_version v (squash ∷ ps) = chained_version (made v squash) ps
chained_version v (rebase ∷ ps) = chained_version (made v rebase) ps

-- ---- layers that were built by plans: those that were built on the top that is there still are made of what stands there
pub record IsBuilt (s : Shelved) (n : Unplaced) (p : Plan) : Type 0 where
  pub before : n.on.age ≤ (top_id s).age
  pub now : n.on ≡ top_id s → record { layers = n.layers; version = n.version } ≡ made (top_held s) p

abbrev pub AreBuilt : Shelved → List Unplaced → List Plan → Type 0
AreBuilt s [] [] = Unit {0}
AreBuilt s [] (p ∷ ps) = ⊥
AreBuilt s (n ∷ ns) [] = ⊥
AreBuilt s (n ∷ ns) (p ∷ ps) = IsBuilt s n p × AreBuilt s ns ps

is_built : (s : Shelved) (p : Plan) → IsBuilt s (built s p) p
is_built s (edit version e) = record { before = omega arith; now = λ h. refl }
is_built s squash = record { before = omega arith; now = λ h. refl }
is_built s rebase = record { before = omega arith; now = λ h. refl }

one_more : (s : Shelved) (ns : List Unplaced) (ps : List Plan) (n : Unplaced) (p : Plan) → AreBuilt s ns ps → IsBuilt s n p → AreBuilt s (ns ++ n ∷ []) (ps ++ p ∷ [])
one_more s [] [] n p all one = (one, tt)
one_more s [] (q ∷ ps) n p all one = absurd all
one_more s (m ∷ ns) [] n p all one = absurd all
one_more s (m ∷ ns) (q ∷ ps) n p all one = (all.0, one_more s ns ps n p all.1 one)

built_at : (s : Shelved) (ns : List Unplaced) (ps : List Plan) (k : ℕ) (n : Unplaced) (p : Plan) → AreBuilt s ns ps → k < length ns → IsBuilt s (get_or ns k n) (get_or ps k p)
built_at s [] ps k n p all within = absurd (omega (arith, within))
built_at s (m ∷ ns) [] k n p all within = absurd all
built_at s (m ∷ ns) (q ∷ ps) zero n p all within = all.0
built_at s (m ∷ ns) (q ∷ ps) (suc k) n p all within = built_at s ns ps k n p all.1 (omega (arith, within))

-- they stay so where the top stays, and where another comes after it
stays : (s t : Shelved) → top_id t ≡ top_id s → top_held t ≡ top_held s → (ns : List Unplaced) (ps : List Plan) → AreBuilt s ns ps → AreBuilt t ns ps
stays s t id held [] [] all = all
stays s t id held [] (p ∷ ps) all = all
stays s t id held (n ∷ ns) [] all = all
stays s t id held (n ∷ ns) (p ∷ ps) all =
    let one = all.0 in
    let before = one.before in
    (record { before = rw id before; now = λ h. one.now (h ∙ id) ∙ ap (λ (v : Versioned). made v p) (sym held) }, stays s t id held ns ps all.1)

passes : (s t : Shelved) → (top_id s).age < (top_id t).age → (ns : List Unplaced) (ps : List Plan) → AreBuilt s ns ps → AreBuilt t ns ps
passes s t later [] [] all = all
passes s t later [] (p ∷ ps) all = all
passes s t later (n ∷ ns) [] all = all
passes s t later (n ∷ ns) (p ∷ ps) all =
    let before = all.0.before in
    (record { before = omega (arith, before, later); now = λ h. absurd (omega (arith, before, later, ap (λ (i : TopId). i.age) h)) }, passes s t later ns ps all.1)

-- ---- any list of calls
pub top_after : (s : Shelved) (ns : List Unplaced) (ps : List Plan) (es : List Event) → AreBuilt s ns ps → AllowsAll (record { shelf = s; layers = ns }) es
    → top_held (after_all (record { shelf = s; layers = ns }) es).shelf ≡ chained (top_held s) (installs ps es)
top_after s ns ps [] all allowed = refl
top_after s ns ps (build p ∷ es) all allowed = top_after s (ns ++ built s p ∷ []) (ps ++ p ∷ []) es (one_more s ns ps (built s p) p all (is_built s p)) allowed.1
top_after s ns ps (install k place ∷ es) all allowed =
    let can = allowed.0 in
    let n : Unplaced = get_or ns k (based_top []) in
    let t : Shelved = installed s place n in
    let later : (top_id s).age < (top_id t).age = omega (arith, installed_age s place n) in
    let one = built_at s ns ps k (based_top []) rebase all can.made_before in
    let held : top_held t ≡ made (top_held s) (get_or ps k rebase) = installed_top s place can.free n ∙ one.now can.still in
    top_after t ns ps es (passes s t later ns ps all) allowed.1 ∙ ap (λ (v : Versioned). chained v (installs ps es)) held
top_after s ns ps (note place hands ∷ es) all allowed =
    let held = noted_top s place hands in
    top_after (map (noted place hands) s) ns ps es (stays s _ (noted_id s place hands) held ns ps all) allowed.1 ∙ ap (λ (v : Versioned). chained v (installs ps es)) held
top_after s ns ps (quiet hands ∷ es) all allowed =
    let held = quieted_top s hands in
    top_after (quieted hands s) ns ps es (stays s _ (quieted_id s hands) held ns ps all) allowed.1 ∙ ap (λ (v : Versioned). chained v (installs ps es)) held
top_after s ns ps (narrow ∷ es) all allowed =
    let held = narrowed_top s in
    top_after (narrowed s) ns ps es (stays s _ (narrowed_id s) held ns ps all) allowed.1 ∙ ap (λ (v : Versioned). chained v (installs ps es)) held
top_after s ns ps (collect ∷ es) all allowed =
    let held = collected_top s allowed.0 in
    top_after (filter (is_kept s) s) ns ps es (stays s _ (collected_id s allowed.0) held ns ps all) allowed.1 ∙ ap (λ (v : Versioned). chained v (installs ps es)) held

pub chain_of_edits : (s : Shelved) (es : List Event) → AllowsAll (fresh s) es
    → top_held (after_all (fresh s) es).shelf ≡ chained (top_held s) (installs [] es)
chain_of_edits s es allowed = top_after s [] [] es tt allowed

pub text_of_edits : (s : Shelved) (es : List Event) → AllowsAll (fresh s) es
    → top_text (after_all (fresh s) es).shelf ≡ text_after (top_text s) (installs [] es)
text_of_edits s es allowed = ap (λ (v : Versioned). whole_text v.layers) (chain_of_edits s es allowed) ∙ chained_text (top_held s) (installs [] es)

pub version_of_edits : (s : Shelved) (es : List Event) → AllowsAll (fresh s) es
    → top_version (after_all (fresh s) es).shelf ≡ version_after (top_version s) (installs [] es)
version_of_edits s es allowed = ap (λ (v : Versioned). v.version) (chain_of_edits s es allowed) ∙ chained_version (top_held s) (installs [] es)
