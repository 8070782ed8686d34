-- A volume comes to have layout 2.
pub mod Migrations
