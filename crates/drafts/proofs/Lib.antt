mod DraftLemmas
