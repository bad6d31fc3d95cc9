-- What is true of the definitions of law_groups, a line a module. Written by tools/modules.

-- Sums: sums over a list of places and over those of it that pass a test: how they add up, and when they are equal.
pub mod Sums
-- Counts: how often a place is in a list, in kdslots' words: once at most where no place is twice in it, once at least where the place is
-- in it; and back.
pub mod Counts
-- Sweeps: what a sweep makes of each place: one that is unseen and in the list is changed once, and every other stays; seen and the length
-- are as expected, and a field that the change keeps is kept.
pub mod Sweeps
-- Run: the groups as a run over the places, one case for a place that is passed by and one for a place that acts: what is seen stays as it
-- is, each place that had its turn is seen, and each place that was unseen comes to be in the groups exactly once.
pub mod Run
-- Walks: each walk of the zoom over the answers, by the list of those that are unseen: the total, what is absorbed, what is copied.
pub mod Walks
-- Literal: the groups are what a zoom makes: its table afterwards and its next table, step by step as `cluster` has them, are the groups'
-- table and the groups' entries, where no place is answered twice and the own place of each entry is answered around it.
pub mod Literal
-- Once: each place of a table that is unseen by the zoom is in exactly one of its groups, once, and no other number is.
pub mod Once
-- OneZoom: what one zoom is, read off its groups: each place is in one group, once; a group is a copy of one entry, or the cluster of its
-- members by SCOPE.
pub mod OneZoom
-- Fits: of a table whose entries are all unseen by the zoom and whose parents are all unset, a zoom is one zoom: each place is in one
-- group, once; each group is a copy of one entry, or the cluster of its members by SCOPE.
pub mod Fits
