use Rattle.std.proofs.Common.{List, sym, subst}
use Rattle.patch.specs.Hunk.{Hunk, hunks_of}
use Rattle.patch.specs.Splicing.{CanSplice}
use Rattle.patch.proofs.SpliceResult.{ordered, ok_run, ok_stands, ok_within, stays_patch, err_cause}
use Rattle.patch.proofs.ViewLemmas.{changes_seen}
use Rattle.patch.proofs.StandLemmas.{ok_more}
use Rattle.patch.proofs.patch.Patch.splice.Goals as goal

pub splice_changes-requires : goal.splice_changes-requires
splice_changes-requires c = (c.self.invariant, ordered (hunks_of c.self.inside.changes.items) c.self.invariant c.args.start c.args.deleted.now c.args.inserted.now (subst (λ (hs : List Hunk). CanSplice hs c.args.start c.args.deleted.now) (sym (changes_seen _ _ c.self.view_is)) c.requires))

pub invariant_of-self : goal.invariant_of-self
invariant_of-self c = stays_patch c.args.self.now.changes c.self.inside.changes.items c.splice_changes.new.changes.items (changes_seen _ _ c.self.view_is) c.self.invariant c.args.start c.args.deleted.now c.args.inserted.now c.splice_changes.result c.splice_changes.ensures.ok c.requires c.splice_changes.ensures.within c.splice_changes.ensures.kept

pub returns-clause-run : goal.returns-clause-run
returns-clause-run c = ok_run c.args.self.now.changes c.self.inside.changes.items c.splice_changes.new.changes.items (changes_seen _ _ c.self.view_is) c.self.invariant c.args.start c.args.deleted.now c.args.inserted.now c.splice_changes.result c.splice_changes.ensures.ok

pub returns-clause-stands : goal.returns-clause-stands
returns-clause-stands c = ok_stands c.args.self.now.changes c.self.inside.changes.items c.splice_changes.new.changes.items (changes_seen _ _ c.self.view_is) c.self.invariant c.args.start c.args.deleted.now c.args.inserted.now c.splice_changes.result c.splice_changes.ensures.ok

pub returns-clause-within : goal.returns-clause-within
returns-clause-within c = ok_within c.args.self.now.changes c.self.inside.changes.items c.splice_changes.new.changes.items (changes_seen _ _ c.self.view_is) c.self.invariant c.args.start c.args.deleted.now c.args.inserted.now c.splice_changes.result c.splice_changes.ensures.ok c.splice_changes.ensures.within

pub returns-clause-err : goal.returns-clause-err
returns-clause-err c = err_cause c.args.self.now.changes c.self.inside.changes.items c.splice_changes.new.changes.items (changes_seen _ _ c.self.view_is) c.self.invariant c.args.start c.args.deleted.now c.args.inserted.now c.splice_changes.result c.splice_changes.ensures.ok c.splice_changes.ensures.err

pub returns-clause-stands_for_more : goal.returns-clause-stands_for_more
returns-clause-stands_for_more c = ok_more c.splice_changes.result c.args.self.now.changes c.args.start c.args.deleted.now c.args.inserted.now (hunks_of c.splice_changes.new.changes.items) (returns-clause-run c) (returns-clause-stands c)
