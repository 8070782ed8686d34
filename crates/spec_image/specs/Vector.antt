-- The vector V1: a disk of 64 blocks, laid out by hand from the format, with the directory [10,20] and in
-- it one file, FOO.TXT, of two words: the text HELLO, carriage return, line feed. All numbers that the
-- format writes in octal are in octal.
use Rattle.std.specs.Prelude.{ℕ, ◌==◌, if◌then◌else◌, List, [], ◌∷◌, ◌++◌, replicate, Some}
use Rattle.words36.specs.declared.names.FileName.{FileName}
use Rattle.blockdisk.specs.Common.{Contents}
use Rattle.spec_image.specs.Maps.{empty, insert}
use Rattle.spec_image.specs.Files.{File, Files}
use Rattle.spec_image.specs.Log.{open_gate}
use Rattle.spec_image.specs.Stands.{StoredFile, StoredDirectory, DiskMap}

abbrev pub home_words : List ℕ
home_words = 0o465154634562 ∷ 1 ∷ 0o100 ∷ 1 ∷ 0o11 ∷ 0o17 ∷ replicate 122 0

abbrev pub table_words : List ℕ
table_words = 0o777777400000 ∷ replicate 127 0

abbrev pub master_block : List ℕ
master_block = 0 ∷ 1 ∷ 0o000010000020 ∷ 0o775000000000 ∷ 0o20 ∷ replicate 123 0

abbrev pub file_block : List ℕ
file_block = 0 ∷ 1 ∷ 0o465757000000 ∷ 0o647064000000 ∷ 0o21 ∷ replicate 123 0

abbrev pub rib_block : List ℕ
rib_block = 0o625142000000 ∷ 0o465757000000 ∷ 0o647064000000 ∷ 0o057000007777 ∷ 0o000010000020 ∷ 2 ∷ 1
    ∷ 0 ∷ (replicate 8 0 ++ 0o000001000022 ∷ replicate 111 0)

abbrev pub data_block : List ℕ
data_block = 0o442131446236 ∷ 0o064240000000 ∷ replicate 126 0

abbrev pub v1 : Contents
v1 n =
    if n == 1 then Some home_words else
    if n == 2 then Some home_words else
    if n == 14 then Some table_words else
    if n == 15 then Some master_block else
    if n == 16 then Some file_block else
    if n == 17 then Some rib_block else
    if n == 18 then Some data_block else Some (replicate 128 0)

-- What it stands for.

abbrev pub foo_txt : FileName
foo_txt = record { name = 0o465757000000; ext = 0o647064 }

abbrev pub hello : File
hello = record { protection = 0o057; mode = 0; time = 0; date = 4095; body = 0o442131446236 ∷ 0o064240000000 ∷ [] }

abbrev pub owner : ℕ
owner = 0o000010000020

abbrev pub v1_file : StoredFile
v1_file = record { file = hello; prime = 17; extensions = []; blocks = 18 ∷ [] }

abbrev pub v1_directory : StoredDirectory
v1_directory = record { protection = 0o775; quota = 0; chain = 16 ∷ []; files = insert empty foo_txt v1_file }

abbrev pub v1_map : DiskMap
v1_map = record { layout = 1; chain = 15 ∷ []; directories = insert empty owner v1_directory }

abbrev pub v1_files : Files File
v1_files = insert empty owner (record { protection = 0o775; quota = 0; files = insert empty foo_txt hello })

-- V1 with the gate open and a log that puts a master directory block which doesn't name [10,20], and a
-- table block without its bits: settled, it has no directory.
abbrev pub bare_master : List ℕ
bare_master = replicate 128 0

abbrev pub bare_table : List ℕ
bare_table = 0o777774000000 ∷ replicate 127 0

abbrev pub v1_header : List ℕ
v1_header = 0o545747000000 ∷ 2 ∷ 15 ∷ 14 ∷ replicate 124 0

abbrev pub v1_open : Contents
v1_open n =
    if n == 3 then Some open_gate else
    if n == 4 then Some v1_header else
    if n == 5 then Some bare_master else
    if n == 6 then Some bare_table else v1 n

abbrev pub bare_map : DiskMap
bare_map = record { layout = 1; chain = 15 ∷ []; directories = empty }
