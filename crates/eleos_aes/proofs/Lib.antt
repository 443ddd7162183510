mod Tables
mod States
mod KeyWords
