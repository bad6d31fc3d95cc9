-- What is true of the definitions of build_all_zooms, a line a module. Written by tools/modules.

-- Parts: parts of columns that are written anew.
pub mod Parts
-- Step: a zoom of a table that stands at `start`: the rows before it stay, and from there on a scan is left.
pub mod Step
-- Running: the loop over the zooms: what holds of the columns between two zooms, and what a zoom does to that.
pub mod Running
-- OwnPlace: the own place of each entry of a table is answered around it, where its coordinates are from 0 to 1 and the radius is finite;
-- and so is the place of each slot of its index, whose coordinates are the entry's.
pub mod OwnPlace
-- Zooming: what one zoom asks of the columns and what it leaves of them, from what holds between two zooms.
pub mod Zooming
-- Progress: how far the loop over the zooms has come: what is written, with what is left to write, is the whole.
pub mod Progress
-- Turn: one turn of the loop over the zooms, at the code's z and z - 1.
pub mod Turn
