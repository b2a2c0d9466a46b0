mod SharingLemmas
mod PlanLemmas
